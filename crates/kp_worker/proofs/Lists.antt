-- Lists that are joined, and what they say of each connection.
use Rattle.std.proofs.Common.{◌≡◌, ◌+◌, ◌≤◌, ℕ, List, [], ◌∷◌, ◌++◌, refl, sym, ap, ◌∙◌, subst, append_assoc, arith}
use Rattle.std.specs.Prelude.{Option, Some, None, ◌==◌}
use Rattle.kp_event.specs.declared.event.NodeEventKind.{NodeEventKind}
use Rattle.kp_shared.specs.Tasks.{Did}
use Rattle.kp_shared.proofs.Lists.{append_nil}
use Rattle.kp_worker.specs.declared.heard.Heard.{Heard}
use Rattle.kp_worker.specs.declared.heard.LineState.{LineState}
use Rattle.kp_worker.specs.declared.note.Note.{Note}
use Rattle.kp_worker.specs.Lists.{Begins, Grew, about, bytes_to, joined, where_true}
use Rattle.kp_worker.specs.Outside.{Outside, Receives, Tells}
use Rattle.kp_worker.specs.Notes.{after_note, one_where, opening, openings, reached}
use Rattle.kp_worker.specs.Events.{Passes, after_kind}
use Rattle.kp_worker.specs.Calls.{Lives}
use Rattle.kp_worker.specs.Notes as of_note

pub joined_both : {A B : Type 0} (f : A → List B) (xs ys : List A) → joined f (xs ++ ys) ≡ joined f xs ++ joined f ys
joined_both f [] ys = refl
joined_both {A} {B} f (x ∷ xs) ys = ap (λ (l : List B). f x ++ l) (joined_both f xs ys) ∙ sym (append_assoc (f x) (joined f xs) (joined f ys))

pub begins_behind : {B : Type 0} (xs ys zs : List B) → Begins ys zs → Begins (xs ++ ys) (xs ++ zs)
begins_behind {B} xs ys zs b = (b.0, ap (λ (l : List B). xs ++ l) b.1 ∙ sym (append_assoc xs ys b.0))

pub begins_early : {B : Type 0} (xs ys zs : List B) → Begins xs ys → Begins xs (ys ++ zs)
begins_early {B} xs ys zs b = (b.0 ++ zs, ap (λ (l : List B). l ++ zs) b.1 ∙ append_assoc xs b.0 zs)

module _ {B : Type 0} where
  pub grew_none : (a : Option (List B)) → Grew a a []
  grew_none None = tt
  grew_none (Some xs) = sym (append_nil xs)

  pub grew_both : (a b c : Option (List B)) (xs ys : List B) → Grew a b xs → Grew b c ys → Grew a c (xs ++ ys)
  grew_both None b c xs ys u v = tt
  grew_both (Some as0) None c xs ys u v = absurd u
  grew_both (Some as0) (Some bs) None xs ys u v = absurd v
  grew_both (Some as0) (Some bs) (Some cs) xs ys u v = v ∙ ap (λ (l : List B). l ++ ys) u ∙ append_assoc as0 xs ys

pub tells_none : (o : Outside) → Tells o o [] []
tells_none o = record { told = λ c. grew_none (o.told c); handed = λ c. grew_none (o.handed c) }

pub tells_both : (o0 o1 o2 : Outside) (xs ys : List (ℕ × Heard)) (ps qs : List (ℕ × List ℕ)) → Tells o0 o1 xs ps → Tells o1 o2 ys qs → Tells o0 o2 (xs ++ ys) (ps ++ qs)
tells_both o0 o1 o2 xs ys ps qs u v = record {
  told = λ c. subst (λ (l : List Heard). Grew (o0.told c) (o2.told c) l) (sym (joined_both (λ (p : ℕ × Heard). where_true (p.0 == c) (p.1 ∷ [])) xs ys))
      (grew_both (o0.told c) (o1.told c) (o2.told c) (about c xs) (about c ys) (u.told c) (v.told c));
  handed = λ c. subst (λ (l : List ℕ). Grew (o0.handed c) (o2.handed c) l) (sym (joined_both (λ (p : ℕ × List ℕ). where_true (p.0 == c) p.1) ps qs))
      (grew_both (o0.handed c) (o1.handed c) (o2.handed c) (bytes_to c ps) (bytes_to c qs) (u.handed c) (v.handed c));
}

-- with nothing behind
pub tells_still : (o0 o1 o2 : Outside) (xs : List (ℕ × Heard)) (ps : List (ℕ × List ℕ)) → Tells o0 o1 xs ps → Tells o1 o2 [] [] → Tells o0 o2 xs ps
tells_still o0 o1 o2 xs ps u v = subst (λ (l : List (ℕ × Heard)). Tells o0 o2 l ps) (append_nil xs)
    (subst (λ (l : List (ℕ × List ℕ)). Tells o0 o2 (xs ++ []) l) (append_nil ps) (tells_both o0 o1 o2 xs [] ps [] u v))

none_plus : (n : ℕ) → n ≡ 0 + n
none_plus n = omega arith

plus_assoc : (a b c : ℕ) → a + (b + c) ≡ (a + b) + c
plus_assoc a b c = omega arith

module _ {M : Type 0} where
  pub receives_none : (a : ℕ → Option (List M)) → Receives a a []
  receives_none a c = grew_none (a c)

  pub receives_both : (a b d : ℕ → Option (List M)) (xs ys : List (ℕ × M)) → Receives a b xs → Receives b d ys → Receives a d (xs ++ ys)
  receives_both a b d xs ys u v c = subst (λ (l : List M). Grew (a c) (d c) l) (sym (joined_both (λ (p : ℕ × M). where_true (p.0 == c) (p.1 ∷ [])) xs ys))
      (grew_both (a c) (b c) (d c) (about c xs) (about c ys) (u c) (v c))

  pub passes_both : (c : ℕ) (s m e : LineState) (xs ys : List (NodeEventKind M)) → Passes c s xs m → Passes c m ys e → Passes c s (xs ++ ys) e
  passes_both c s m e [] ys p q = subst (λ (x : LineState). Passes c x ys e) p q
  passes_both c s m e (k ∷ ks) ys p q = (p.0, passes_both c (after_kind c s k) m e ks ys p.1 q)

  pub reached_both : (c : ℕ) (s : LineState) (xs ys : List (Note M)) → reached c s (xs ++ ys) ≡ reached c (reached c s xs) ys
  reached_both c s [] ys = refl
  reached_both c s (n ∷ ns) ys = reached_both c (after_note c s n) ns ys

  pub lives_both : (c : ℕ) (s m e : LineState) (xs ys : List (List (Did M))) → Lives c s xs m → Lives c m ys e → Lives c s (xs ++ ys) e
  lives_both c s m e [] ys p q = subst (λ (x : LineState). Lives c x ys e) p q
  lives_both c s m e (t ∷ ts) ys p q = (p.0, p.1, lives_both c (reached c p.0 (of_note.notes t)) m e ts ys p.2 q)

  pub openings_both : (xs ys : List (Note M)) → openings (xs ++ ys) ≡ openings xs + openings ys
  openings_both [] ys = none_plus (openings ys)
  openings_both (n ∷ ns) ys = ap (λ (k : ℕ). one_where (opening n.thought) + k) (openings_both ns ys) ∙ plus_assoc (one_where (opening n.thought)) (openings ns) (openings ys)

pub none_more : (n : ℕ) → 0 ≤ n
none_more n = omega arith
