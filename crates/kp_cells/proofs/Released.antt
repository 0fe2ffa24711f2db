-- Paths that give back their numbers: the parts, by paths, stay as they are.
use Rattle.std.proofs.Common.{◌≡◌, ℕ, Bool, true, false, cond, nat_eq, ◌&&◌, ◌||◌, List, [], ◌∷◌, ◌++◌, Option, Some, None, is_some, refl, ap, sym, ◌∙◌}
use Rattle.std.specs.Prelude.{not}
use Rattle.std.specs.List.{All}
use Rattle.std.specs.Ordering.{nat_cmp}
use Rattle.std.specs.Cmp.{unsigned_tied, nat_eq_equiv}
use Rattle.std.specs.FinMap.{get}
use Rattle.std.proofs.lemmas.List.Elements.{All-head, All-tail, All-nil, All-cons}
use Rattle.kp_layers.specs.Layering.{Layering, staged_of}
use Rattle.kp_layers.specs.Used.{is_written, is_written_in, is_used}
use Rattle.kp_model.specs.declared.node.Acl.{Acl}
use Rattle.kp_model.specs.declared.node.Meta.{Meta}
use Rattle.kp_model.specs.declared.session.Session.{Session}
use Rattle.kp_cells.specs.Naming.{Naming, IsNaming, Grows, Knows, AreKnown, IsNamed, layers_by_path}
use Rattle.kp_cells.specs.Held.{overlays, AreHeld}
use Rattle.kp_cells.specs.Traced.{is_in, uses, left, AreUsed}
use Rattle.kp_cells.proofs.Named.{no_number}
use Rattle.kp_cells.proofs.Forgotten.{nothing_is}
use Rattle.kp_layers.proofs.Used.{any-append}
use Rattle.kp_cells.proofs.ByPath.{grown_by_path}

pub left_true : (a b : Bool) → a ≡ true → (a || b) ≡ true
left_true true b h = refl
left_true false b h = absurd (no_number false h refl)

pub right_true : (a b : Bool) → b ≡ true → (a || b) ≡ true
right_true true b h = refl
right_true false b h = h

-- what follows of both follows of either
pub one_of : {X : Type 0} (a b : Bool) → (a ≡ true → X) → (b ≡ true → X) → (a || b) ≡ true → X
one_of true b f g h = f refl
one_of false b f g h = g h

and_none : (b : Bool) → (b && false) ≡ false
and_none true = refl
and_none false = refl

-- what is left was there, and is none of the unused ones
left_some : (used : ℕ → Bool) (ns : List ℕ) (n : ℕ) (r : Option ℕ) → left used ns r ≡ Some n → (r ≡ Some n) × ((is_in n ns && not (used n)) ≡ false)
left_some used ns n None e = absurd (nothing_is e)
left_some used ns n (Some m) e = here (is_in m ns && not (used m)) refl e where
  here : (b : Bool) → (is_in m ns && not (used m)) ≡ b → cond b None (Some m) ≡ Some n → (Some m ≡ Some n) × ((is_in n ns && not (used n)) ≡ false)
  here true is f = absurd (nothing_is f)
  here false is f = let same : m ≡ n = cc in (f, sym (ap (λ k. is_in k ns && not (used k)) same) ∙ is)

module _ (names names' : Naming) (used' : ℕ → Bool) (ns : List ℕ) (numbers : (p : List ℕ) → get names'.numbers p ≡ left used' ns (get names.numbers p)) where
  shrunk : Grows names' names
  shrunk p n e = (left_some used' ns n (get names.numbers p) (sym (numbers p) ∙ e)).0

  still : (p : List ℕ) (n : ℕ) → get names.numbers p ≡ Some n → used' n ≡ true → get names'.numbers p ≡ Some n
  still p n e u =
      numbers p
      ∙ ap (left used' ns) e
      ∙ ap (λ b. cond (is_in n ns && not b) None (Some n)) u
      ∙ ap (λ b. cond b None (Some n)) (and_none (is_in n ns))

  known_still : (n : ℕ) → used' n ≡ true → Knows names n → Knows names' n
  known_still n u k = (k.0, still k.0 n k.1 u)

  -- where only numbers that are looked at went out of use, each path that still has a number is in use
  pub used_still : (used : ℕ → Bool) → AreUsed names used → ((n : ℕ) → used n ≡ true → used' n ≡ false → is_in n ns ≡ true) → AreUsed names' used'
  used_still used was gone p n e = here (used' n) refl where
    before : (get names.numbers p ≡ Some n) × ((is_in n ns && not (used' n)) ≡ false)
    before = left_some used' ns n (get names.numbers p) (sym (numbers p) ∙ e)

    here : (b : Bool) → used' n ≡ b → b ≡ true
    here true u = refl
    here false u =
        let looked : is_in n ns ≡ true = gone n (was p n before.0) u in
        let both : (is_in n ns && not (used' n)) ≡ true = (λ i. looked i && not (u i)) in
        absurd (no_number (is_in n ns && not (used' n)) both before.1)

  module _ {V : Type 0} where
    writes_known : (ws : List (ℕ × Option V)) → ((n : ℕ) → is_written nat_cmp ws n ≡ true → used' n ≡ true) → AreKnown names ws → AreKnown names' ws
    writes_known [] u known = All-nil (λ w. Knows names' w.0)
    writes_known (w ∷ ws) u known =
        All-cons (λ w. Knows names' w.0) w ws
        (known_still w.0 (u w.0 (left_true _ (is_written nat_cmp ws w.0) (unsigned_tied w.0 w.0 ∙ nat_eq_equiv.refl w.0))) (All-head (λ w. Knows names w.0) w ws known))
        (writes_known ws (λ n h. u n (right_true _ (is_written nat_cmp ws n) h)) (All-tail (λ w. Knows names w.0) w ws known))

    layers_known : (layers : List (List (ℕ × Option V))) → ((n : ℕ) → is_written_in nat_cmp layers n ≡ true → used' n ≡ true) → All (AreKnown names) layers → All (AreKnown names') layers
    layers_known [] u known = All-nil (AreKnown names')
    layers_known (ws ∷ layers) u known =
        All-cons (AreKnown names') ws layers
        (writes_known ws (λ n h. u n (left_true (is_written nat_cmp ws n) (is_written_in nat_cmp layers n) h)) (All-head (AreKnown names) ws layers known))
        (layers_known layers (λ n h. u n (right_true (is_written nat_cmp ws n) (is_written_in nat_cmp layers n) h)) (All-tail (AreKnown names) ws layers known))

    named_still : (l : Layering nat_cmp V) → ((n : ℕ) → is_used l n ≡ true → used' n ≡ true) → IsNamed names l → IsNamed names' l
    named_still l u named = record {
      base = λ n v e. known_still n (u n (left_true (is_some (get l.base n)) _ (ap is_some e))) (named.base n v e);
      layers = layers_known l.layers (λ n h. u n (right_true (is_some (get l.base n)) _ (left_true (is_written_in nat_cmp l.layers n) (is_written nat_cmp (staged_of l) n) h))) named.layers;
      staged = writes_known (staged_of l) (λ n h. u n (right_true (is_some (get l.base n)) _ (right_true (is_written_in nat_cmp l.layers n) (is_written nat_cmp (staged_of l) n) h))) named.staged;
    }

-- the parts under the names that are left
module _ (names names' : Naming) (metas : Layering nat_cmp Meta) (contents : Layering nat_cmp (List ℕ)) (acls : Layering nat_cmp (List Acl)) (children : Layering nat_cmp (Unit {0})) (owners : Layering nat_cmp ℕ) (sessions : Layering nat_cmp Session) (next : Layering nat_cmp ℕ) (applied : ℕ) (ns : List ℕ)
    (numbers : (p : List ℕ) → get names'.numbers p ≡ left (uses metas contents acls children owners) ns (get names.numbers p)) (naming : IsNaming names') (h : AreHeld names metas contents acls children owners sessions next) where
  here : {V : Type 0} (l : Layering nat_cmp V) → ((n : ℕ) → is_used l n ≡ true → uses metas contents acls children owners n ≡ true) → IsNamed names l → IsNamed names' l
  here = named_still names names' (uses metas contents acls children owners) ns numbers

  metas_use : (n : ℕ) → is_used metas n ≡ true → uses metas contents acls children owners n ≡ true
  metas_use n u = left_true (is_used metas n) _ u

  contents_use : (n : ℕ) → is_used contents n ≡ true → uses metas contents acls children owners n ≡ true
  contents_use n u = right_true (is_used metas n) _ (left_true (is_used contents n) _ u)

  acls_use : (n : ℕ) → is_used acls n ≡ true → uses metas contents acls children owners n ≡ true
  acls_use n u = right_true (is_used metas n) _ (right_true (is_used contents n) _ (left_true (is_used acls n) _ u))

  children_use : (n : ℕ) → is_used children n ≡ true → uses metas contents acls children owners n ≡ true
  children_use n u = right_true (is_used metas n) _ (right_true (is_used contents n) _ (right_true (is_used acls n) _ (left_true (is_used children n) _ u)))

  owners_use : (n : ℕ) → is_used owners n ≡ true → uses metas contents acls children owners n ≡ true
  owners_use n u = right_true (is_used metas n) _ (right_true (is_used contents n) _ (right_true (is_used acls n) _ (right_true (is_used children n) _ u)))

  pub held_still : AreHeld names' metas contents acls children owners sessions next
  held_still = record {
    naming = naming;
    metas_named = here metas metas_use h.metas_named;
    contents_named = here contents contents_use h.contents_named;
    acls_named = here acls acls_use h.acls_named;
    children_named = here children children_use h.children_named;
    owners_named = here owners owners_use h.owners_named;
    contents_alike = h.contents_alike;
    acls_alike = h.acls_alike;
    children_alike = h.children_alike;
    owners_alike = h.owners_alike;
    sessions_alike = h.sessions_alike;
    next_alike = h.next_alike;
  }

  same : {V : Type 0} (l : Layering nat_cmp V) → IsNamed names' l → layers_by_path names' l ≡ layers_by_path names l
  same l named = sym (grown_by_path names' names naming h.naming (shrunk names names' (uses metas contents acls children owners) ns numbers) l named)

  pub overlays_still : overlays names' metas contents acls children owners sessions next applied ≡ overlays names metas contents acls children owners sessions next applied
  overlays_still =
      let e_metas : layers_by_path names' metas ≡ layers_by_path names metas = same metas held_still.metas_named in
      let e_contents : layers_by_path names' contents ≡ layers_by_path names contents = same contents held_still.contents_named in
      let e_acls : layers_by_path names' acls ≡ layers_by_path names acls = same acls held_still.acls_named in
      let e_children : layers_by_path names' children ≡ layers_by_path names children = same children held_still.children_named in
      let e_owners : layers_by_path names' owners ≡ layers_by_path names owners = same owners held_still.owners_named in
      λ i. record { metas = e_metas i; contents = e_contents i; acls = e_acls i; children = e_children i; owners = e_owners i; sessions = sessions; next = next; applied = applied }

-- one number more that is looked at
pub left_none : (used : ℕ → Bool) (r : Option ℕ) → left used [] r ≡ r
left_none used None = refl
left_none used (Some n) = refl

pub left_more : (used : ℕ → Bool) (ns : List ℕ) (n : ℕ) (r : Option ℕ) → left used (n ∷ []) (left used ns r) ≡ left used (ns ++ n ∷ []) r
left_more used ns n None = refl
left_more used ns n (Some k) =
    here (is_in k ns) (nat_eq k n || false) (not (used k)) refl refl
    ∙ ap (λ b. cond (b && not (used k)) None (Some k)) (sym (any-append (nat_eq k) ns (n ∷ [])))
  where
    inner : (b u : Bool) → (nat_eq k n || false) ≡ b → not (used k) ≡ u → left used (n ∷ []) (Some k) ≡ cond (b && u) None (Some k)
    inner b u e f = λ i. cond (e i && f i) None (Some k)

    here : (a b u : Bool) → (nat_eq k n || false) ≡ b → not (used k) ≡ u → left used (n ∷ []) (cond (a && u) None (Some k)) ≡ cond ((a || b) && u) None (Some k)
    here true b true e f = refl
    here true true false e f = inner true false e f
    here true false false e f = inner false false e f
    here false b u e f = inner b u e f
