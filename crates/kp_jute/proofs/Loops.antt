-- Reading values one after the other as a loop does: i of them stand in front, and the others are still to come.
use Rattle.std.proofs.Common.{◌≡◌, ℕ, suc, ◌-◌, ◌+◌, ◌≤◌, ◌<◌, List, [], ◌∷◌, ◌++◌, Option, Some, None, Result, Ok, Err, refl, sym, ap, ◌∙◌, append_assoc, arith}
use Rattle.std.proofs.lemmas.List.{append-nil}
use Rattle.kp_jute.specs.declared.fault.JuteFail.{JuteFail}
use Rattle.kp_jute.specs.declared.fault.JuteFail.TheVariants.{NoMemory, Short, BadLength, BadByte}
use Rattle.kp_jute.specs.Form.{◌>>=◌, Fails, Place, Reading}
use Rattle.kp_jute.specs.Jute.{items_at, until_at}

-- what was read before, and what is still read
abbrev pub with_front : {A : Type 0} → List A → Result (List A × Place) JuteFail → Result (List A × Place) JuteFail
with_front front read = read >>= λ x. Ok (front ++ x.0, x.1)

regroup : {A : Type 0} (front : List A) (n : A) (read : Result (List A × Place) JuteFail) → with_front front (read >>= λ x. Ok (n ∷ x.0, x.1)) ≡ with_front (front ++ n ∷ []) read
regroup {A} front n (Ok x) = ap (λ (ns : List A). Ok (ns, x.1)) (simp append_assoc)
regroup front n (Err f) = refl

-- a refusal of one part is that of the whole
pub failed : {A B : Type 0} (e : JuteFail) (r : Result A JuteFail) (s : Result B JuteFail) → ((f : JuteFail) → r ≡ Err f → s ≡ Err f) → Fails e r → Fails e s
failed NoMemory r s h x = tt
failed (Short at) r s h x = h (Short at) x
failed (BadLength at) r s h x = h (BadLength at) x
failed (BadByte at) r s h x = h (BadByte at) x

-- ---- behind a count

pub items_go_on : {A : Type 0} (read : Reading A) (front : List A) (count i : ℕ) (p : Place) (n : A) (after : Place) (total : Result (List A × Place) JuteFail) → i < count → read p ≡ Ok (n, after)
    → with_front front (items_at read (count - i) p) ≡ total → with_front (front ++ n ∷ []) (items_at read (count - (i + 1)) after) ≡ total
unfolding items_at
items_go_on read front count i p n after total lt h so_far =
    let k : count - i ≡ suc (count - (i + 1)) = omega arith in
    let one : with_front front (items_at read (count - i) p) ≡ with_front (front ++ n ∷ []) (items_at read (count - (i + 1)) after) = rw (k, h) (regroup front n (items_at read (count - (i + 1)) after)) in
    sym one ∙ so_far

pub items_fail : {A : Type 0} (read : Reading A) (e : JuteFail) (front : List A) (count i : ℕ) (p : Place) (total : Result (List A × Place) JuteFail) → i < count → Fails e (read p)
    → with_front front (items_at read (count - i) p) ≡ total → Fails e total
unfolding items_at
items_fail read e front count i p total lt h so_far =
    let k : count - i ≡ suc (count - (i + 1)) = omega arith in
    failed e (read p) total (λ f is. sym so_far ∙ rw (k, is) refl) h

pub items_end : {A : Type 0} (read : Reading A) (front : List A) (count i : ℕ) (p : Place) (total : Result (List A × Place) JuteFail) → count ≤ i → with_front front (items_at read (count - i) p) ≡ total → total ≡ Ok (front, p)
unfolding items_at
items_end {A} read front count i p total le so_far =
    let k : count - i ≡ 0 = omega arith in
    let one : with_front front (items_at read (count - i) p) ≡ Ok (front, p) = rw k (ap (λ (ns : List A). Ok (ns, p)) (append-nil front)) in
    sym so_far ∙ one

-- ---- up to an end mark

pub until_goes_on : {A : Type 0} (read : Reading (Option A)) (front : List A) (count i : ℕ) (p : Place) (n : A) (after : Place) (total : Result (List A × Place) JuteFail) → i < count → read p ≡ Ok (Some n, after)
    → with_front front (until_at read (count - i) p) ≡ total → with_front (front ++ n ∷ []) (until_at read (count - (i + 1)) after) ≡ total
unfolding until_at
until_goes_on read front count i p n after total lt h so_far =
    let k : count - i ≡ suc (count - (i + 1)) = omega arith in
    let one : with_front front (until_at read (count - i) p) ≡ with_front (front ++ n ∷ []) (until_at read (count - (i + 1)) after) = rw (k, h) (regroup front n (until_at read (count - (i + 1)) after)) in
    sym one ∙ so_far

pub until_stops : {A : Type 0} (read : Reading (Option A)) (front : List A) (count i : ℕ) (p after : Place) (total : Result (List A × Place) JuteFail) → i < count → read p ≡ Ok (None, after)
    → with_front front (until_at read (count - i) p) ≡ total → total ≡ Ok (front, after)
unfolding until_at
until_stops {A} read front count i p after total lt h so_far =
    let k : count - i ≡ suc (count - (i + 1)) = omega arith in
    let one : with_front front (until_at read (count - i) p) ≡ Ok (front, after) = rw (k, h) (ap (λ (ns : List A). Ok (ns, after)) (append-nil front)) in
    sym so_far ∙ one

pub until_fails : {A : Type 0} (read : Reading (Option A)) (e : JuteFail) (front : List A) (count i : ℕ) (p : Place) (total : Result (List A × Place) JuteFail) → i < count → Fails e (read p)
    → with_front front (until_at read (count - i) p) ≡ total → Fails e total
unfolding until_at
until_fails read e front count i p total lt h so_far =
    let k : count - i ≡ suc (count - (i + 1)) = omega arith in
    failed e (read p) total (λ f is. sym so_far ∙ rw (k, is) refl) h

pub until_runs_out : {A : Type 0} (read : Reading (Option A)) (front : List A) (count i : ℕ) (p : Place) (total : Result (List A × Place) JuteFail) → count ≤ i
    → with_front front (until_at read (count - i) p) ≡ total → total ≡ Err (Short p.at)
unfolding until_at
until_runs_out read front count i p total le so_far =
    let k : count - i ≡ 0 = omega arith in
    let one : with_front front (until_at read (count - i) p) ≡ Err (Short p.at) = rw k refl in
    sym so_far ∙ one
