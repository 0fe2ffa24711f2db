-- Reading rows as a loop does: some of them are before, and the others are still to come.
use Rattle.std.proofs.Common.{◌≡◌, ℕ, suc, ◌-◌, ◌+◌, ◌≤◌, ◌<◌, List, [], ◌∷◌, ◌++◌, Result, Ok, refl, sym, ◌∙◌, arith}
use Rattle.kp_jute.specs.declared.fault.JuteFail.{JuteFail}
use Rattle.kp_jute.specs.Form.{Fails, Place, Reading}
use Rattle.kp_jute.proofs.Loops.{failed}
use Rattle.kp_snapshot.specs.Rows.{rows_at}

pub rows_go_on : {A : Type 0} (read : List A → Reading A) (before : List A) (count i : ℕ) (p : Place) (x : A) (after : Place) (total : Result (List A × Place) JuteFail) → i < count → read before p ≡ Ok (x, after)
    → rows_at read (count - i) before p ≡ total → rows_at read (count - (i + 1)) (before ++ x ∷ []) after ≡ total
unfolding rows_at
rows_go_on read before count i p x after total lt h so_far =
    let k : count - i ≡ suc (count - (i + 1)) = omega arith in
    let one : rows_at read (count - i) before p ≡ rows_at read (count - (i + 1)) (before ++ x ∷ []) after = rw (k, h) refl in
    sym one ∙ so_far

pub rows_fail : {A : Type 0} (read : List A → Reading A) (e : JuteFail) (before : List A) (count i : ℕ) (p : Place) (total : Result (List A × Place) JuteFail) → i < count → Fails e (read before p)
    → rows_at read (count - i) before p ≡ total → Fails e total
unfolding rows_at
rows_fail read e before count i p total lt h so_far =
    let k : count - i ≡ suc (count - (i + 1)) = omega arith in
    failed e (read before p) total (λ f is. sym so_far ∙ rw (k, is) refl) h

pub rows_end : {A : Type 0} (read : List A → Reading A) (before : List A) (count i : ℕ) (p : Place) (total : Result (List A × Place) JuteFail) → count ≤ i → rows_at read (count - i) before p ≡ total → total ≡ Ok (before, p)
unfolding rows_at
rows_end read before count i p total le so_far =
    let k : count - i ≡ 0 = omega arith in
    let one : rows_at read (count - i) before p ≡ Ok (before, p) = rw k refl in
    sym so_far ∙ one
