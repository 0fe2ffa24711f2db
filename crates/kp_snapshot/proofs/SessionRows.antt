-- Reading sessions as a loop does.
use Rattle.std.proofs.Common.{◌≡◌, ℕ, ◌-◌, ◌+◌, ◌<◌, List, [], ◌∷◌, ◌++◌, Result, Ok, refl, ap, subst, ◌∙◌}
use Rattle.kp_jute.specs.declared.fault.JuteFail.{JuteFail}
use Rattle.kp_jute.specs.Form.{Fails, Place, Reading}
use Rattle.kp_model.specs.declared.session.Origin.{Origin}
use Rattle.kp_snapshot.specs.Rows.{rows_at}
use Rattle.kp_snapshot.specs.Rules.{Numbered, numbers_of, holders_of}
use Rattle.kp_snapshot.specs.Images.{session_behind}
use Rattle.kp_snapshot.specs.Knowing.{Sessions, knowing, knowing_more}
use Rattle.kp_snapshot.proofs.RowLoops.{rows_go_on, rows_fail}

-- a session behind others
abbrev pub session_at : ℕ → List Numbered → Reading Numbered
session_at next before = (session_behind next (numbers_of before) (holders_of before)).read

-- a session behind those that are known
abbrev pub session_known : Sessions → Reading Numbered
session_known k = (session_behind k.next k.ids k.holders).read

numbers_on : (before : List Numbered) (s : Numbered) → numbers_of before ++ s.0 ∷ [] ≡ numbers_of (before ++ s ∷ [])
numbers_on [] s = refl
numbers_on (b ∷ before) s = ap (λ (ns : List ℕ). b.0 ∷ ns) (numbers_on before s)

holders_on : (before : List Numbered) (s : Numbered) → holders_of before ++ s.1.holder ∷ [] ≡ holders_of (before ++ s ∷ [])
holders_on [] s = refl
holders_on (b ∷ before) s = ap (λ (os : List Origin). b.1.holder ∷ os) (holders_on before s)

pub knowing_on : (next : ℕ) (before : List Numbered) (s : Numbered) (k new : Sessions) → k ≡ knowing next before → new ≡ knowing_more k s → new ≡ knowing next (before ++ s ∷ [])
knowing_on next before s k new e more = more ∙ ap (λ (j : Sessions). knowing_more j s) e ∙ (λ i. record { next = next; ids = numbers_on before s i; holders = holders_on before s i })

pub sessions_go_on : (next : ℕ) (before : List Numbered) (k : Sessions) (count i : ℕ) (p : Place) (s : Numbered) (after : Place) (total : Result (List Numbered × Place) JuteFail) → k ≡ knowing next before → i < count → session_known k p ≡ Ok (s, after)
    → rows_at (session_at next) (count - i) before p ≡ total → rows_at (session_at next) (count - (i + 1)) (before ++ s ∷ []) after ≡ total
sessions_go_on next before k count i p s after total e lt h so_far = rows_go_on (session_at next) before count i p s after total lt (subst (λ (j : Sessions). session_known j p ≡ Ok (s, after)) e h) so_far

pub sessions_fail : (next : ℕ) (fail : JuteFail) (before : List Numbered) (k : Sessions) (count i : ℕ) (p : Place) (total : Result (List Numbered × Place) JuteFail) → k ≡ knowing next before → i < count → Fails fail (session_known k p)
    → rows_at (session_at next) (count - i) before p ≡ total → Fails fail total
sessions_fail next fail before k count i p total e lt h so_far = rows_fail (session_at next) fail before count i p total lt (subst (λ (j : Sessions). Fails fail (session_known j p)) e h) so_far
