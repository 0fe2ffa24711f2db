-- A stream that is cut in two: what both pieces bring is what they bring as one.
use Rattle.std.proofs.Common.{◌≡◌, ℕ, zero, suc, ◌+◌, ◌-◌, ◌≤◌, List, [], ◌∷◌, ◌++◌, length, take, drop, nat_lt, if◌then◌else◌, Option, Some, None, Bool, true, false, Result, Ok, Err, refl, ap, sym, ◌∙◌, arith, append_assoc, length-append, length-drop}
use Rattle.std.specs.Int.{w32}
use Rattle.std.proofs.lemmas.Bool.{ltb-false, le-ltb}
use Rattle.std.proofs.lemmas.List.{take-append-le, drop-append-le}
use Rattle.kp_jute.specs.declared.fault.JuteFail.{JuteFail}
use Rattle.kp_jute.specs.Form.{whole}
use Rattle.kp_jute.specs.Jute.{unsigned_of, packets}
use Rattle.kp_model.specs.Limits.{longest_frame}
use Rattle.kp_wire.specs.declared.request.Request.{Request}
use Rattle.kp_wire.specs.Request.{requests}
use Rattle.kp_conn.specs.declared.frames.Lead.{Lead}
use Rattle.kp_conn.specs.declared.frames.Lead.TheVariants as leads
use Rattle.kp_conn.specs.Frames.{Cut, length_of, lead, cut, cut_up_to, cut_lead, cut_read, before, behind}

-- ---- what bytes begin with, by its three tests

abbrev lead_by : Bool → Bool → Bool → ℕ → Lead
lead_by b1 b2 b3 n = if b1 then leads.Part else (if b2 then leads.Wrong else (if b3 then leads.Part else leads.Frame n))

lead_is : (bytes : List ℕ) → lead bytes ≡ lead_by (nat_lt (length bytes) 4) (nat_lt longest_frame (length_of bytes)) (nat_lt (length bytes) (4 + length_of bytes)) (4 + length_of bytes)
unfolding lead
lead_is bytes = refl

abbrev ByTests : Bool → Bool → Bool → ℕ → ℕ → Type 0
ByTests b1 b2 b3 n k = ((b1 ≡ false) × (b2 ≡ false)) × ((b3 ≡ false) × (n ≡ k))

frame_by : (b1 b2 b3 : Bool) (n k : ℕ) → lead_by b1 b2 b3 n ≡ leads.Frame k → ByTests b1 b2 b3 n k
frame_by true b2 b3 n k h = absurd (cc h)
frame_by false true b3 n k h = absurd (cc h)
frame_by false false true n k h = absurd (cc h)
frame_by false false false n k h = ((refl, refl), (refl, cc h))

-- a frame of so many bytes stands at the front
record IsFrame (bytes : List ℕ) (k : ℕ) : Type 0 where
  four : 4 ≤ length bytes
  small : length_of bytes ≤ longest_frame
  within : k ≤ length bytes
  size : 4 + length_of bytes ≡ k

is_frame : (bytes : List ℕ) (k : ℕ) → lead bytes ≡ leads.Frame k → IsFrame bytes k
is_frame bytes k h =
    let f : ByTests (nat_lt (length bytes) 4) (nat_lt longest_frame (length_of bytes)) (nat_lt (length bytes) (4 + length_of bytes)) (4 + length_of bytes) k = frame_by _ _ _ (4 + length_of bytes) k (sym (lead_is bytes) ∙ h) in
    let all : 4 + length_of bytes ≤ length bytes = ltb-false (length bytes) (4 + length_of bytes) f.1.0 in
    record { four = ltb-false (length bytes) 4 f.0.0; small = ltb-false longest_frame (length_of bytes) f.0.1; within = omega (arith, all, f.1.1); size = f.1.1 }

lead_frame : (bytes : List ℕ) (k : ℕ) → IsFrame bytes k → lead bytes ≡ leads.Frame k
lead_frame bytes k f =
    let all : 4 + length_of bytes ≤ length bytes = omega (arith, f.within, f.size) in
    lead_is bytes
    ∙ (λ i. lead_by (le-ltb (length bytes) 4 f.four i) (le-ltb longest_frame (length_of bytes) f.small i) (le-ltb (length bytes) (4 + length_of bytes) all i) (f.size i))

-- and where other bytes follow
frame_stays : (xs ys : List ℕ) (k : ℕ) → IsFrame xs k → IsFrame (xs ++ ys) k
frame_stays xs ys k f =
    let more : length (xs ++ ys) ≡ length xs + length ys = length-append xs ys in
    let same : length_of (xs ++ ys) ≡ length_of xs = ap (unsigned_of w32) (take-append-le 4 xs ys f.four) in
    record { four = omega (arith, f.four, more); small = omega (arith, f.small, same); within = omega (arith, f.within, more); size = omega (arith, f.size, same) }

-- what is left behind it is shorter
shorter : (bytes : List ℕ) (k n : ℕ) → IsFrame bytes k → length bytes ≤ suc n → length (drop k bytes) ≤ n
shorter bytes k n f le = let l : length (drop k bytes) ≡ length bytes - k = length-drop k bytes in omega (arith, l, f.size, f.within, le)

-- ---- as many turns as there are bytes are enough

enough_lead : (n m p : ℕ) (bytes : List ℕ) (l : Lead) → lead bytes ≡ l → ((q : ℕ) (rest : List ℕ) → length rest ≤ n → length rest ≤ m → cut_up_to n q rest ≡ cut_up_to m q rest) → length bytes ≤ suc n → length bytes ≤ suc m
    → cut_lead p bytes (λ k. cut_up_to n (p + k) (drop k bytes)) l ≡ cut_lead p bytes (λ k. cut_up_to m (p + k) (drop k bytes)) l
enough_lead n m p bytes leads.Part is again a b = refl
enough_lead n m p bytes leads.Wrong is again a b = refl
enough_lead n m p bytes (leads.Frame k) is again a b =
    let f : IsFrame bytes k = is_frame bytes k is in
    ap (cut_read p (whole (packets requests) (take k bytes))) (again (p + k) (drop k bytes) (shorter bytes k n f a) (shorter bytes k m f b))

enough : (n m p : ℕ) (bytes : List ℕ) → length bytes ≤ n → length bytes ≤ m → cut_up_to n p bytes ≡ cut_up_to m p bytes
unfolding cut_up_to lead
enough zero zero p bytes a b = refl
enough zero (suc m) p [] a b = refl
enough zero (suc m) p (x ∷ xs) a b = absurd (omega (arith, a))
enough (suc n) zero p [] a b = refl
enough (suc n) zero p (x ∷ xs) a b = absurd (omega (arith, b))
enough (suc n) (suc m) p bytes a b = enough_lead n m p bytes (lead bytes) refl (λ q rest. enough n m q rest) a b

-- ---- a frame at the front is read first, whatever follows

front_read : (p k : ℕ) (xs ys : List ℕ) → IsFrame xs k → cut p (xs ++ ys) ≡ cut_read p (whole (packets requests) (take k xs)) (cut (p + k) (drop k xs ++ ys))
unfolding cut_up_to
front_read p k xs ys f =
    let n : ℕ = length (xs ++ ys) in
    let one : cut p (xs ++ ys) ≡ cut_up_to (suc n) p (xs ++ ys) = enough n (suc n) p (xs ++ ys) (omega arith) (omega arith) in
    let it : lead (xs ++ ys) ≡ leads.Frame k = lead_frame (xs ++ ys) k (frame_stays xs ys k f) in
    let cut_off : drop k (xs ++ ys) ≡ drop k xs ++ ys = drop-append-le k xs ys f.within in
    let left : length (drop k (xs ++ ys)) ≤ n = shorter (xs ++ ys) k n (frame_stays xs ys k f) (omega arith) in
    one
    ∙ (λ i. cut_lead p (xs ++ ys) (λ j. cut_up_to n (p + j) (drop j (xs ++ ys))) (it i))
    ∙ (λ i. cut_read p (whole (packets requests) (take-append-le k xs ys f.within i)) (cut_up_to n (p + k) (drop k (xs ++ ys))))
    ∙ ap (cut_read p (whole (packets requests) (take k xs))) (enough n (length (drop k (xs ++ ys))) (p + k) (drop k (xs ++ ys)) left (omega arith))
    ∙ (λ i. cut_read p (whole (packets requests) (take k xs)) (cut (p + k) (cut_off i)))

-- ---- both pieces

-- what is cut off the first, and then off the rest of it with the second behind it
abbrev then_cut : Cut → List ℕ → Cut
then_cut u ys = before u.requests (cut u.place (u.rest ++ ys))

joined_read : (p : ℕ) (r : Result Request JuteFail) (u : Cut) (ys : List ℕ) (tail : Cut) → (u.bad ≡ None → tail ≡ then_cut u ys) → (cut_read p r u).bad ≡ None → cut_read p r tail ≡ then_cut (cut_read p r u) ys
joined_read p (Ok q) u ys tail more none = ap (behind q) (more none)
joined_read p (Err e) u ys tail more none = absurd (cc none)

joined_lead : (n p : ℕ) (xs ys : List ℕ) (l : Lead) → lead xs ≡ l → ((q : ℕ) (rest : List ℕ) → length rest ≤ n → (cut_up_to n q rest).bad ≡ None → cut q (rest ++ ys) ≡ then_cut (cut_up_to n q rest) ys) → length xs ≤ suc n
    → (cut_lead p xs (λ k. cut_up_to n (p + k) (drop k xs)) l).bad ≡ None → cut p (xs ++ ys) ≡ then_cut (cut_lead p xs (λ k. cut_up_to n (p + k) (drop k xs)) l) ys
joined_lead n p xs ys leads.Part is again le none = refl
joined_lead n p xs ys leads.Wrong is again le none = absurd (cc none)
joined_lead n p xs ys (leads.Frame k) is again le none =
    let f : IsFrame xs k = is_frame xs k is in
    front_read p k xs ys f
    ∙ joined_read p (whole (packets requests) (take k xs)) (cut_up_to n (p + k) (drop k xs)) ys (cut (p + k) (drop k xs ++ ys)) (again (p + k) (drop k xs) (shorter xs k n f le)) none

joined_up_to : (n p : ℕ) (xs ys : List ℕ) → length xs ≤ n → (cut_up_to n p xs).bad ≡ None → cut p (xs ++ ys) ≡ then_cut (cut_up_to n p xs) ys
unfolding cut_up_to
joined_up_to zero p [] ys le none = refl
joined_up_to zero p (x ∷ xs) ys le none = absurd (omega (arith, le))
joined_up_to (suc n) p xs ys le none = joined_lead n p xs ys (lead xs) refl (λ q rest. joined_up_to n q rest ys) le none

pub cut_joined : (p : ℕ) (xs ys : List ℕ) → (cut p xs).bad ≡ None → cut p (xs ++ ys) ≡ before (cut p xs).requests (cut (cut p xs).place ((cut p xs).rest ++ ys))
cut_joined p xs ys none = joined_up_to (length xs) p xs ys (omega arith) none
