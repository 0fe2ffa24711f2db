-- When a home may take more.
use Rattle.std.proofs.Common.{◌≡◌, ℕ, Bool, true, false, List, Option, Some, None, Result, Ok, Err, refl, ap, sym, ◌∙◌}
use Rattle.std.proofs.lemmas.Option.{none-some, same_Some}
use Rattle.kp_journal.specs.declared.fail.JournalFail.{JournalFail}
use Rattle.kp_journal.specs.Journals.{Journaled, journal_of, StandsFor}
use Rattle.kp_homes.specs.Stands.{IsReady}
use Rattle.kp_kept.specs.Ready.{gate_in, MayTake}

stands_by : (j : Journaled) (r : Result Journaled JournalFail) (xs : List ℕ) → journal_of j.head.node xs ≡ r → gate_in r ≡ Some j.gate → StandsFor j xs
stands_by j (Ok v) xs is gate = (v, is, same_Some _ _ gate)
stands_by j (Err e) xs is gate = absurd (none-some _ gate)

pub ready_of : (second : Bool) (j0 j1 : Option (List ℕ)) (j : Journaled) → MayTake second j0 j1 j.head.node j.gate → IsReady second j0 j1 j
ready_of false None j1 j may = tt
ready_of false (Some xs) j1 j may = stands_by j (journal_of j.head.node xs) xs refl (may xs refl)
ready_of true j0 None j may = tt
ready_of true j0 (Some xs) j may = stands_by j (journal_of j.head.node xs) xs refl (may xs refl)

gate_by : (j : Journaled) (xs : List ℕ) → StandsFor j xs → gate_in (journal_of j.head.node xs) ≡ Some j.gate
gate_by j xs s = ap gate_in s.1 ∙ ap (λ (n : ℕ). Some n) s.2

pub may_of : (second : Bool) (j0 j1 : Option (List ℕ)) (j : Journaled) → IsReady second j0 j1 j → MayTake second j0 j1 j.head.node j.gate
may_of false None j1 j ready = λ xs e. absurd (none-some _ e)
may_of false (Some ys) j1 j ready = λ xs e. ap (λ (zs : List ℕ). gate_in (journal_of j.head.node zs)) (same_Some _ _ (sym e)) ∙ gate_by j ys ready
may_of true j0 None j ready = λ xs e. absurd (none-some _ e)
may_of true j0 (Some ys) j ready = λ xs e. ap (λ (zs : List ℕ). gate_in (journal_of j.head.node zs)) (same_Some _ _ (sym e)) ∙ gate_by j ys ready
