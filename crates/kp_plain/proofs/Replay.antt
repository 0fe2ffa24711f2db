-- Replays, entry by entry.
use Rattle.std.proofs.Common.{◌≡◌, ℕ, zero, suc, ◌+◌, ◌<◌, ◌≤◌, List, [], ◌∷◌, length, take, drop, get_or, slice_get, Some, None, refl, sym, ap, ◌∙◌, arith, add-one, drop_of_length-le, length-take-le}
use Rattle.std.proofs.Math.Seq.{drop-cons}
use Rattle.std.specs.Option.{option_map}
use Rattle.kp_model.specs.State.{State}
use Rattle.kp_model.specs.LogEntry.{LogEntry}
use Rattle.kp_model.specs.Step.{apply, Outcome}
use Rattle.kp_model.specs.Store.{Store, after, outcome_in, committed_as, commit_answer, commit_leaves}
use Rattle.kp_model.proofs.Applied.{applied-apply, applied-after}
use Rattle.kp_cells.specs.declared.change.Change.{Change}
use Rattle.kp_prep.specs.Changing.{set_one, set_all}
use Rattle.kp_plain.specs.Outcomes.{outcome}
use Rattle.kp_act.specs.declared.plan.Prepared.{Prepared}

-- one entry further
pub after_more : (s : State) (es : List LogEntry) (i : ℕ) (e : LogEntry) → i < length es → e ≡ get_or es i e → after s (drop i es) ≡ after (apply s e).state (drop (i + 1) es)
unfolding after
after_more s es i e lt at = ap (after s) (drop-cons es i e lt) ∙ ap (λ (x : LogEntry). after (apply s x).state (drop (suc i) es)) (sym at) ∙ ap (λ n. after (apply s e).state (drop n es)) (sym (add-one i))

-- none is left
pub after_all : (s : State) (es : List LogEntry) (i : ℕ) → length es ≤ i → after s (drop i es) ≡ s
unfolding after
after_all s es i h = ap (after s) (drop_of_length-le es h)

-- one change further
pub set_more : (s : State) (cs : List Change) (i : ℕ) (c : Change) → i < length cs → c ≡ get_or cs i c → set_all s (drop i cs) ≡ set_all (set_one s c) (drop (i + 1) cs)
unfolding set_all
set_more s cs i c lt at = ap (set_all s) (drop-cons cs i c lt) ∙ ap (λ (x : Change). set_all (set_one s x) (drop (suc i) cs)) (sym at) ∙ ap (λ n. set_all (set_one s c) (drop n cs)) (sym (add-one i))

-- no change is left
pub set_none : (s : State) (cs : List Change) (i : ℕ) → length cs ≤ i → set_all s (drop i cs) ≡ s
unfolding set_all
set_none s cs i h = ap (set_all s) (drop_of_length-le cs h)

-- the state with the changes of an entry and the next index is the one behind it
pub taken_is : (s t : State) (e : LogEntry) (applied : ℕ) (a : Prepared) (cs slice : List Change) → applied ≡ s.applied → a.reply ≡ (apply s e).reply → a.events ≡ (apply s e).events
    → set_all s cs ≡ record (apply s e).state { applied = s.applied } → slice ≡ cs → t ≡ set_all s slice → outcome (record t { applied = applied + 1 }) a ≡ apply s e
taken_is s t e applied a cs slice index reply events set all made =
    let same : t ≡ record (apply s e).state { applied = s.applied } = made ∙ ap (set_all s) all ∙ set in
    λ j. record {
      state = record {
        nodes = (ap (λ (x : State). x.nodes) same) j;
        sessions = (ap (λ (x : State). x.sessions) same) j;
        next = (ap (λ (x : State). x.next) same) j;
        applied = (ap (λ n. n + 1) index ∙ sym (applied-apply s e)) j;
      };
      reply = reply j;
      events = events j;
    }

found : {A : Type 0} (xs : List A) (j : ℕ) (x : A) → j < length xs → x ≡ get_or xs j x → slice_get xs j ≡ Some x
found [] j x lt at = absurd (omega arith)
found (y ∷ xs) zero x lt at = ap Some (sym at)
found (y ∷ xs) (suc j) x lt at = found xs j x (omega arith) at

missing : {A : Type 0} (xs : List A) (j : ℕ) → length xs ≤ j → slice_get xs j ≡ None
missing [] j h = refl
missing (y ∷ xs) zero h = absurd (omega arith)
missing (y ∷ xs) (suc j) h = missing xs j (omega arith)

-- no entry stands at this place
pub outcome_none : (s : State) (us : List LogEntry) (j : ℕ) → length us ≤ j → outcome_in s us j ≡ None
unfolding outcome_in
outcome_none s us j h = rw (missing us j h)

-- the entry at this place is taken on the state behind those before it
pub outcome_some : (s : State) (us : List LogEntry) (j : ℕ) (e : LogEntry) → j < length us → e ≡ get_or us j e → outcome_in s us j ≡ Some (apply (after s (take j us)) e)
unfolding outcome_in
outcome_some s us j e lt at = rw (found us j e lt at)

answer_first : (s : State) (us : List LogEntry) (e : LogEntry) → 0 < length us → e ≡ get_or us 0 e → commit_answer s us ≡ Some (committed_as (s.applied + 1) (apply s e))
unfolding commit_answer
answer_first s [] e lt at = absurd (omega arith)
answer_first s (u ∷ us) e lt at = rw (sym at)

leaves_first : (s : State) (us : List LogEntry) (e : LogEntry) → 0 < length us → e ≡ get_or us 0 e → commit_leaves s us ≡ record { state = (apply s e).state; unapplied = drop 1 us }
unfolding commit_leaves
leaves_first s [] e lt at = absurd (omega arith)
leaves_first s (u ∷ us) e lt at = rw (sym at)

pub answer_none : (s : State) (us : List LogEntry) → length us ≡ 0 → commit_answer s us ≡ None
unfolding commit_answer
answer_none s [] h = refl
answer_none s (u ∷ us) h = absurd (omega arith)

pub leaves_none : (x : Store) → length x.unapplied ≡ 0 → commit_leaves x.state x.unapplied ≡ x
unfolding commit_leaves
leaves_none x h = elim x.unapplied as (λ us. length us ≡ 0 → commit_leaves x.state us ≡ record { state = x.state; unapplied = us }) [ [] ↦ λ _. refl | u ∷ us ↦ λ (z : length (u ∷ us) ≡ 0). absurd (omega (arith, z)) ] h

-- a copy of the state that took the first entry in
module _ (s t new : State) (us : List LogEntry) (e : LogEntry) (a : Prepared) (same : t ≡ s) (took : outcome new a ≡ apply t e) where
  took' : outcome new a ≡ apply s e
  took' = took ∙ ap (λ (x : State). apply x e) same

  pub first_state : new ≡ (apply s e).state
  first_state = ap (λ (o : Outcome). o.state) took'

  pub first_index : new.applied ≡ s.applied + 1
  first_index = ap (λ (o : Outcome). o.state.applied) took' ∙ applied-apply s e

  pub first_answer : (index : ℕ) → 0 < length us → e ≡ get_or us 0 e → index ≡ new.applied → Some (record { index = index; reply = a.reply; events = a.events }) ≡ commit_answer s us
  first_answer index lt at i = ap (λ (n : ℕ). Some (record { index = n; reply = a.reply; events = a.events })) (i ∙ first_index)
      ∙ ap (λ (o : Outcome). Some (committed_as (s.applied + 1) o)) took'
      ∙ sym (answer_first s us e lt at)

  pub first_leaves : 0 < length us → e ≡ get_or us 0 e → record { state = new; unapplied = drop 1 us } ≡ commit_leaves s us
  first_leaves lt at = ap (λ (o : Outcome). let x : Store = record { state = o.state; unapplied = drop 1 us } in x) took' ∙ sym (leaves_first s us e lt at)

-- the reply at a place
pub reply_at : (s t new : State) (us : List LogEntry) (j : ℕ) (e : LogEntry) (a : Prepared) → t ≡ after s (take j us) → outcome new a ≡ apply t e → j < length us → e ≡ get_or us j e
    → Some a.reply ≡ option_map (λ (o : Outcome). o.reply) (outcome_in s us j)
reply_at s t new us j e a same took lt at = ap (λ (o : Outcome). Some o.reply) (took ∙ ap (λ (x : State). apply x e) same)
    ∙ sym (ap (option_map (λ (o : Outcome). o.reply)) (outcome_some s us j e lt at))

pub applied_before : (s t : State) (us : List LogEntry) (j : ℕ) → t ≡ after s (take j us) → j ≤ length us → t.applied ≡ s.applied + j
applied_before s t us j same le = ap (λ (x : State). x.applied) same ∙ applied-after s (take j us) ∙ ap (λ n. s.applied + n) (length-take-le j us le)
