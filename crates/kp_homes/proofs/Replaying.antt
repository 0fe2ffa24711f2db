-- How records are replayed one by one.
use Rattle.std.proofs.Common.{◌≡◌, ℕ, zero, suc, ◌+◌, ◌≤◌, Bool, true, false, cond, List, [], ◌∷◌, length, drop, get_or, slice_get, Option, Some, None, Result, Ok, Err, refl, sym, ◌∙◌, ap, subst, arith}
use Rattle.std.specs.Option.{unwrap_or}
use Rattle.std.proofs.lemmas.Option.{none-some, same_Some}
use Rattle.kp_entry.specs.declared.record.Record.{Record}
use Rattle.kp_entry.specs.Held.{replay_one}
use Rattle.kp_homes.specs.declared.fail.HomeFail.{HomeFail}
use Rattle.kp_homes.specs.declared.fail.HomeFail.TheVariants as home_fail
use Rattle.kp_homes.specs.Opening.{Start, boot_by, is_fit, refused_at, misfit, started, unless, restarted, Goes, Refuses}

-- a start with one record more
abbrev pub with_one : Start → Record → Start
with_one s r = record { boot = boot_by s.boot r; held = replay_one s.held r }

pub goes : (slot : ℕ) (s : Start) (r : Record) (rs : List Record) (ps : List ℕ) → is_fit s.held.log r ≡ true → restarted slot s (r ∷ rs) ps ≡ restarted slot (with_one s r) rs (drop 1 ps)
unfolding restarted
goes slot s r rs ps fits = ap (λ (b : Bool). unless slot (cond b (misfit (replay_one s.held r) rs (drop 1 ps)) (Some (refused_at (get_or ps 0 0) r))) (started s (r ∷ rs))) fits

pub stops : (slot at : ℕ) (s : Start) (r : Record) (rs : List Record) (ps : List ℕ) → is_fit s.held.log r ≡ false → get_or ps 0 0 ≡ at → restarted slot s (r ∷ rs) ps ≡ Err (home_fail.Damaged slot (refused_at at r))
unfolding restarted
stops slot at s r rs ps fits place =
    ap (λ (b : Bool). unless slot (cond b (misfit (replay_one s.held r) rs (drop 1 ps)) (Some (refused_at (get_or ps 0 0) r))) (started s (r ∷ rs))) fits
    ∙ ap (λ (k : ℕ). Err (home_fail.Damaged slot (refused_at k r))) place

pub ends : (slot : ℕ) (s : Start) (rs : List Record) (ps : List ℕ) → rs ≡ [] → restarted slot s rs ps ≡ Ok s
unfolding restarted
ends slot s rs ps none = ap (λ (l : List Record). unless slot (misfit s.held l ps) (started s l)) none

-- ---- lists from a place on

pub drop_none : {A : Type 0} (k : ℕ) (xs : List A) → length xs ≤ k → drop k xs ≡ []
drop_none zero [] le = refl
drop_none zero (x ∷ xs) le = absurd (omega (arith, le))
drop_none (suc k) [] le = refl
drop_none (suc k) (x ∷ xs) le = drop_none k xs (omega (arith, le))

no_item : {A : Type 0} (P : Type 0) (r : A) → ◌≡◌ {A = Option A} None (Some r) → P
no_item P r e = absurd (none-some r e)

pub from_there : {A : Type 0} (k : ℕ) (xs : List A) (r : A) → slice_get xs k ≡ Some r → drop k xs ≡ r ∷ drop (suc k) xs
from_there zero [] r e = no_item _ r e
from_there zero (x ∷ xs) r e = ap (λ y. y ∷ xs) (same_Some x r e)
from_there (suc k) [] r e = no_item _ r e
from_there (suc k) (x ∷ xs) r e = from_there k xs r e

pub none_there : {A : Type 0} (k : ℕ) (xs : List A) → slice_get xs k ≡ None → length xs ≤ k
none_there zero [] e = omega arith
none_there zero (x ∷ xs) e = no_item _ x (sym e)
none_there (suc k) [] e = omega arith
none_there (suc k) (x ∷ xs) e = let le = none_there k xs e in omega (arith, le)

pub one_less : {A : Type 0} (k : ℕ) (xs : List A) → drop 1 (drop k xs) ≡ drop (suc k) xs
one_less zero xs = refl
one_less (suc k) [] = refl
one_less (suc k) (x ∷ xs) = one_less k xs

pub first_left : (k : ℕ) (ps : List ℕ) → get_or (drop k ps) 0 0 ≡ get_or ps k 0
first_left zero ps = refl
first_left (suc k) [] = refl
first_left (suc k) (p ∷ ps) = first_left k ps

pub place_there : (k at : ℕ) (ps : List ℕ) (o : Option ℕ) → o ≡ slice_get ps k → at ≡ unwrap_or o 0 → get_or (drop k ps) 0 0 ≡ at
place_there k at ps o is said = first_left k ps ∙ got k ps ∙ ap (λ (q : Option ℕ). unwrap_or q 0) (sym is) ∙ sym said
  where
    got : (k : ℕ) (ps : List ℕ) → get_or ps k 0 ≡ unwrap_or (slice_get ps k) 0
    got zero [] = refl
    got zero (p ∷ ps) = refl
    got (suc k) [] = refl
    got (suc k) (p ∷ ps) = got k ps

-- ---- one record of a list

pub none_left : (slot k : ℕ) (s : Start) (rs : List Record) (ps : List ℕ) → None ≡ slice_get rs k → restarted slot s (drop k rs) (drop k ps) ≡ restarted slot s (drop (k + 1) rs) (drop (k + 1) ps)
none_left slot k s rs ps none =
    let le = none_there k rs (sym none) in
    ends slot s (drop k rs) (drop k ps) (drop_none k rs le) ∙ sym (ends slot s (drop (k + 1) rs) (drop (k + 1) ps) (drop_none (k + 1) rs (omega (arith, le))))

pub one_left : (result : Result (Unit {0}) HomeFail) (slot k at : ℕ) (s t : Start) (rs : List Record) (ps : List ℕ) (r : Record) → Some r ≡ slice_get rs k → get_or (drop k ps) 0 0 ≡ at
    → ((rs' : List Record) (ps' : List ℕ) → get_or ps' 0 0 ≡ at → Goes result (restarted slot s (r ∷ rs') ps') (restarted slot t rs' (drop 1 ps')))
    → Goes result (restarted slot s (drop k rs) (drop k ps)) (restarted slot t (drop (k + 1) rs) (drop (k + 1) ps))
one_left result slot k at s t rs ps r there place step =
    let next : suc k ≡ k + 1 = omega arith in
    let h = step (drop (suc k) rs) (drop k ps) place in
    let h1 = subst (λ (l : List Record). Goes result (restarted slot s l (drop k ps)) (restarted slot t (drop (suc k) rs) (drop 1 (drop k ps)))) (sym (from_there k rs r (sym there))) h in
    let h2 = subst (λ (l : List ℕ). Goes result (restarted slot s (drop k rs) (drop k ps)) (restarted slot t (drop (suc k) rs) l)) (one_less k ps) h1 in
    subst (λ (j : ℕ). Goes result (restarted slot s (drop k rs) (drop k ps)) (restarted slot t (drop j rs) (drop j ps))) next h2

-- the loop over a list
pub refused_on : (e : HomeFail) (was is : Result Start HomeFail) → was ≡ is → Refuses e is → Refuses e was
refused_on home_fail.DiskFault was is same r = absurd r
refused_on (home_fail.Damaged slot at) was is same r = same ∙ r
refused_on (home_fail.Full slot len) was is same r = absurd r
refused_on home_fail.NoMemory was is same r = tt
