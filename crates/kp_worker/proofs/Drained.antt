-- The node has each connection that a turn drains, also where the drain's bytes are handed out.
use Rattle.std.proofs.Common.{◌≡◌, ℕ, Bool, true, false, List, [], ◌∷◌, ◌++◌, refl, sym, ap, ◌∙◌, subst}
use Rattle.std.specs.Prelude.{Option, Some, None, Ok, Err, ◌==◌}
use Rattle.kp_event.specs.declared.event.NodeEventKind.{NodeEventKind}
use Rattle.kp_event.specs.declared.event.NodeEventKind.TheVariants as kind
use Rattle.kp_shared.specs.declared.task.Task.TheVariants as task
use Rattle.kp_shared.specs.declared.task.Answer.TheVariants as answer
use Rattle.kp_shared.specs.Tasks.{Did}
use Rattle.kp_worker.specs.declared.heard.LineState.{LineState}
use Rattle.kp_worker.specs.declared.heard.LineState.TheVariants as line
use Rattle.kp_worker.specs.declared.note.Mark.{Mark}
use Rattle.kp_worker.specs.declared.note.Note.{Note}
use Rattle.kp_worker.specs.Outside.{AllThere, Outside, is_there, over_of, put_where}
use Rattle.kp_worker.specs.Notes.{after_note, all_drained, drained_by, ending, ends, mark_of, notes, opening, opens, reached}
use Rattle.kp_worker.specs.Events.{Passes, drain_in, drains, fed, kinds}
use Rattle.kp_worker.specs.Turns.{Harmless}
use Rattle.kp_worker.specs.Calls.{Releases}
use Rattle.kp_worker.proofs.Lists.{joined_both}

abbrev is_cons : {B : Type 0} → List B → Type 0
is_cons [] = ⊥
is_cons (x ∷ xs) = Unit {0}

no_cons : {B C : Type 0} (x : B) (xs : List B) → x ∷ xs ≡ [] → C
no_cons x xs e = absurd (subst is_cons e tt)

there_open : (b : Bool) (s : LineState) → is_there s ≡ true → is_there (put_where b line.Open s) ≡ true
there_open true s t = refl
there_open false s t = t

there_over : (s : LineState) → is_there s ≡ true → is_there (over_of s) ≡ true
there_over line.Gone t = t
there_over line.Open t = refl
there_over line.Over t = refl

there_end : (b : Bool) (s : LineState) → is_there s ≡ true → is_there (put_where b (over_of s) s) ≡ true
there_end true s t = there_over s t
there_end false s t = t

there_opens : (c : ℕ) (s : LineState) (n : Option ℕ) → is_there s ≡ true → is_there (opens c s n) ≡ true
there_opens c s None t = t
there_opens c s (Some n) t = there_open (n == c) s t

there_ends : (c : ℕ) (s : LineState) (n : Option ℕ) → is_there s ≡ true → is_there (ends c s n) ≡ true
there_ends c s None t = t
there_ends c s (Some n) t = there_end (n == c) s t

-- those that the node has, it has later
all_there : (p q : ℕ → LineState) (cs : List ℕ) → ((c : ℕ) → is_there (p c) ≡ true → is_there (q c) ≡ true) → AllThere p cs → AllThere q cs
all_there p q [] later h = tt
all_there p q (c ∷ cs) later h = (later c h.0, all_there p q cs later h.1)

there_first : (p : ℕ → LineState) (xs ys : List ℕ) → AllThere p (xs ++ ys) → AllThere p xs
there_first p [] ys h = tt
there_first p (x ∷ xs) ys h = (h.0, there_first p xs ys h.1)

there_last : (p : ℕ → LineState) (xs ys : List ℕ) → AllThere p (xs ++ ys) → AllThere p ys
there_last p [] ys h = h
there_last p (x ∷ xs) ys h = there_last p xs ys h.1

there_both : (p : ℕ → LineState) (xs ys : List ℕ) → AllThere p xs → AllThere p ys → AllThere p (xs ++ ys)
there_both p [] ys a b = b
there_both p (x ∷ xs) ys a b = (a.0, there_both p xs ys a.1 b)

-- the node has it still where a connection was opened
pub opened_there : (p q : ℕ → LineState) (m : Mark) (n : Option ℕ) → ((c : ℕ) → q c ≡ opens c (p c) n) → AllThere p (drained_by m) → AllThere q (drained_by m)
opened_there p q m n e h = all_there p q (drained_by m) (λ c t. subst (λ (s : LineState). is_there s ≡ true) (sym (e c)) (there_opens c (p c) n t)) h

module _ {M : Type 0} where
  there_note : (c : ℕ) (s : LineState) (n : Note M) → is_there s ≡ true → is_there (after_note c s n) ≡ true
  there_note c s n t = there_ends c (opens c s (opening n.thought)) (ending n.mark n.thought) (there_opens c s (opening n.thought) t)

  there_reached : (c : ℕ) (s : LineState) (ns : List (Note M)) → is_there s ≡ true → is_there (reached c s ns) ≡ true
  there_reached c s [] t = t
  there_reached c s (n ∷ ns) t = there_reached c (after_note c s n) ns (there_note c s n t)

  -- the node has the next connection that was drained, where all that is before it has left
  pub next_there : (o0 o1 : Outside) (done rest all : List (Note M)) (n : Note M) → done ++ n ∷ rest ≡ all → Releases o0 o1 done → AllThere o0.state (all_drained all) → AllThere o1.state (drained_by n.mark)
  next_there o0 o1 done rest all n e a h = let whole : all_drained all ≡ all_drained done ++ (drained_by n.mark ++ all_drained rest) = sym (ap all_drained e) ∙ joined_both (λ (x : Note M). drained_by x.mark) done (n ∷ rest) in
      all_there o0.state o1.state (drained_by n.mark) (λ c t. subst (λ (s : LineState). is_there s ≡ true) (sym (a.lives c)) (there_reached c (o0.state c) done t))
      (there_first o0.state (drained_by n.mark) (all_drained rest) (there_last o0.state (all_drained done) (drained_by n.mark ++ all_drained rest) (subst (λ (l : List ℕ). AllThere o0.state l) whole h)))

  kind_drained : (k : NodeEventKind M) → drained_by (mark_of k) ≡ drain_in k
  kind_drained (kind.Client c b) = refl
  kind_drained (kind.Drain c) = refl
  kind_drained (kind.Accept d) = refl
  kind_drained (kind.Hangup c) = refl
  kind_drained (kind.Deliver m) = refl
  kind_drained kind.Timeout = refl
  kind_drained kind.Beat = refl
  kind_drained kind.CommitOne = refl
  kind_drained kind.ExpireDue = refl
  kind_drained kind.Snapshot = refl

  -- harmless events drain only what the node has
  harmless_there : (p : ℕ → LineState) (ks : List (NodeEventKind M)) → fed ks ≡ [] → ((c : ℕ) → Passes c (p c) ks (p c)) → AllThere p (drains ks)
  harmless_there p [] f h = tt
  harmless_there p (kind.Drain n ∷ ks) f h = ((h n).0 refl, harmless_there p ks f (λ c. (h c).1))
  harmless_there p (kind.Client n b ∷ ks) f h = no_cons (kind.Client n b) (fed ks) f
  harmless_there p (kind.Hangup n ∷ ks) f h = no_cons (kind.Hangup n) (fed ks) f
  harmless_there p (kind.Accept d ∷ ks) f h = harmless_there p ks f (λ c. (h c).1)
  harmless_there p (kind.Deliver m ∷ ks) f h = harmless_there p ks f (λ c. (h c).1)
  harmless_there p (kind.Timeout ∷ ks) f h = harmless_there p ks f (λ c. (h c).1)
  harmless_there p (kind.Beat ∷ ks) f h = harmless_there p ks f (λ c. (h c).1)
  harmless_there p (kind.CommitOne ∷ ks) f h = harmless_there p ks f (λ c. (h c).1)
  harmless_there p (kind.ExpireDue ∷ ks) f h = harmless_there p ks f (λ c. (h c).1)
  harmless_there p (kind.Snapshot ∷ ks) f h = harmless_there p ks f (λ c. (h c).1)

module _ {M : Type 0} where
  more_there : (p : ℕ → LineState) (k : NodeEventKind M) (ks : List (NodeEventKind M)) (cs : List ℕ) → AllThere p (drain_in k ++ drains ks) → AllThere p cs → AllThere p (drained_by (mark_of k) ++ cs)
  more_there p k ks cs h t = there_both p (drained_by (mark_of k)) cs (subst (λ (l : List ℕ). AllThere p l) (sym (kind_drained k)) (there_first p (drain_in k) (drains ks) h)) t

  notes_there : (p : ℕ → LineState) (ds : List (Did M)) → AllThere p (drains (kinds ds)) → AllThere p (all_drained (notes ds))
  notes_there p [] h = tt
  notes_there p ((task.Think e, Ok (answer.Thought t)) ∷ ds) h = more_there p e.kind (kinds ds) (all_drained (notes ds)) h (notes_there p ds (there_last p (drain_in e.kind) (drains (kinds ds)) h))
  notes_there p ((task.Think e, Ok (answer.Kept n)) ∷ ds) h = notes_there p ds (there_last p (drain_in e.kind) (drains (kinds ds)) h)
  notes_there p ((task.Think e, Err f) ∷ ds) h = more_there p e.kind (kinds ds) (all_drained (notes ds)) h (notes_there p ds (there_last p (drain_in e.kind) (drains (kinds ds)) h))
  notes_there p ((task.Flush, a) ∷ ds) h = notes_there p ds h

  -- the node has each connection that a turn drains, where the others of its events drain none
  pub turn_there : (o : Outside) (t : List (Did M)) (ks more : List (NodeEventKind M)) (ns : List (Note M)) → kinds t ≡ ks ++ more → drains ks ≡ [] → Harmless o more → ns ≡ notes t → AllThere o.state (all_drained ns)
  turn_there o t ks more ns ke none h ne = let same : drains (kinds t) ≡ drains more = ap drains ke ∙ joined_both drain_in ks more ∙ ap (λ (l : List ℕ). l ++ drains more) none in
      subst (λ (l : List (Note M)). AllThere o.state (all_drained l)) (sym ne) (notes_there o.state t (subst (λ (l : List ℕ). AllThere o.state l) (sym same) (harmless_there o.state more h.feeds h.lives)))
