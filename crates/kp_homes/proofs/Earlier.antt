-- What a crash before a run of calls could leave stays so.
use Rattle.std.proofs.Common.{ℕ, ◌≤◌, List, Option, Some, None, sym, subst}
use Rattle.kp_io.specs.Crash.{Past, LeavesIf}
use Rattle.kp_homes.specs.Slots.{LeavesTwoIf}
use Rattle.kp_homes.specs.Stands.{LeftIf, IsRest}

pub run_before : (m0 m n : ℕ) (Q : List ℕ → Type 0) (c : List ℕ) (old new : Option Past) → LeavesIf m0 m Q old new → n ≤ m0 → LeftIf new n c → LeftIf old n c
run_before m0 m n Q c None None run le left = absurd left
run_before m0 m n Q c None (Some new) run le left = absurd run
run_before m0 m n Q c (Some old) None run le left = absurd run
run_before m0 m n Q c (Some old) (Some new) run le left = run.before n c le left

two_told_before : (m0 m n : ℕ) (Q : List ℕ → List ℕ → Type 0) (cj ci : List ℕ) (p q : Past) (nj ni : Option Past) → LeavesTwoIf m0 m Q (Some p) (Some q) nj ni → n ≤ m0 → LeftIf nj n cj → LeftIf ni n ci → LeftIf (Some p) n cj × LeftIf (Some q) n ci
two_told_before m0 m n Q cj ci p q None ni two le lj li = absurd lj
two_told_before m0 m n Q cj ci p q (Some nj) None two le lj li = absurd li
two_told_before m0 m n Q cj ci p q (Some nj) (Some ni) two le lj li = (two.before_j n cj le lj, two.before_i n ci le li)

pub two_before : (m0 m n : ℕ) (Q : List ℕ → List ℕ → Type 0) (cj ci xj xi : List ℕ) (hj hi : Option (List ℕ)) (oj oi nj ni : Option Past) → IsRest m0 xj hj oj → IsRest m0 xi hi oi → LeavesTwoIf m0 m Q oj oi nj ni → n ≤ m0 → LeftIf nj n cj → LeftIf ni n ci
    → LeftIf oj n cj × LeftIf oi n ci
two_before m0 m n Q cj ci xj xi hj hi oj oi nj ni rj ri two le lj li =
    let both = two_told_before m0 m n Q cj ci rj.told ri.told nj ni (subst (λ (o : Option Past). LeavesTwoIf m0 m Q o (Some ri.told) nj ni) rj.tells (subst (λ (o : Option Past). LeavesTwoIf m0 m Q oj o nj ni) ri.tells two)) le lj li in
    (subst (λ (o : Option Past). LeftIf o n cj) (sym rj.tells) both.0, subst (λ (o : Option Past). LeftIf o n ci) (sym ri.tells) both.1)
