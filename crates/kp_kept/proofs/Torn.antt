-- The first records of a step.
use Rattle.std.proofs.Common.{◌≡◌, ℕ, zero, suc, ◌<◌, ◌≤◌, Bool, true, false, List, [], ◌∷◌, ◌++◌, length, take, Option, Some, None, refl, ap, subst, ◌∙◌, arith}
use Rattle.std.specs.Prelude.{◌&&◌, ◌||◌, nat_lt}
use Rattle.std.proofs.lemmas.Bool.Decides.{nat_tests}
use Rattle.kp_entry.specs.declared.record.Record.{Record}
use Rattle.kp_entry.specs.declared.record.Record.TheVariants as record_
use Rattle.kp_entry.specs.Heads.{voted}
use Rattle.kp_entry.specs.Held.{Held, replay_one}
use Rattle.kp_entry.specs.Records.{is_base, has_base}
use Rattle.kp_homes.specs.Opening.{boot_after, is_fit, are_fit}
use Rattle.kp_kept.proofs.Shapes.{IsPlain, IsBased, is_open}

left_false : (a b : Bool) → (a || b) ≡ false → a ≡ false
left_false true b e = absurd (cc e)
left_false false b e = refl

right_false : (a b : Bool) → (a || b) ≡ false → b ≡ false
right_false true b e = absurd (cc e)
right_false false b e = e

both_false : (a b : Bool) → a ≡ false → b ≡ false → (a || b) ≡ false
both_false true b e f = absurd (cc e)
both_false false b e f = f

left_true : (a b : Bool) → (a && b) ≡ true → a ≡ true
left_true true b e = refl
left_true false b e = absurd (cc e)

right_true : (a b : Bool) → (a && b) ≡ true → b ≡ true
right_true true b e = e
right_true false b e = absurd (cc e)

both_true : (a b : Bool) → a ≡ true → b ≡ true → (a && b) ≡ true
both_true true b e f = f
both_true false b e f = absurd (cc e)

take_open : (rs : List Record) (k : ℕ) → has_base rs ≡ false → has_base (take k rs) ≡ false
take_open [] zero e = refl
take_open [] (suc k) e = refl
take_open (r ∷ rs) zero e = refl
take_open (r ∷ rs) (suc k) e = both_false (is_base r) (has_base (take k rs)) (left_false (is_base r) (has_base rs) e) (take_open rs k (right_false (is_base r) (has_base rs) e))

pub take_fits : (h : Held) (rs : List Record) (k : ℕ) → are_fit h rs ≡ true → are_fit h (take k rs) ≡ true
take_fits h [] zero e = refl
take_fits h [] (suc k) e = refl
take_fits h (r ∷ rs) zero e = refl
take_fits h (r ∷ rs) (suc k) e = both_true (is_fit h.log r) (are_fit (replay_one h r) (take k rs)) (left_true (is_fit h.log r) (are_fit (replay_one h r) rs) e)
    (take_fits (replay_one h r) rs k (right_true (is_fit h.log r) (are_fit (replay_one h r) rs) e))

none_below : (P : Type 0) (n : ℕ) → nat_lt zero (suc n) ≡ false → P
none_below P n e = absurd (let le : suc n ≤ zero = grind (arith, nat_tests) in omega (arith, le))

one_less : (k n : ℕ) → nat_lt (suc k) (suc n) ≡ false → nat_lt k n ≡ false
one_less k n e = let le : suc n ≤ suc k = grind (arith, nat_tests) in let less : n ≤ k = omega (arith, le) in grind (arith, nat_tests)

pub take_all : (rs : List Record) (k : ℕ) → nat_lt k (length rs) ≡ false → take k rs ≡ rs
take_all [] zero e = refl
take_all [] (suc k) e = refl
take_all (r ∷ rs) zero e = none_below _ (length rs) e
take_all (r ∷ rs) (suc k) e = ap (λ (xs : List Record). r ∷ xs) (take_all rs k (one_less k (length rs) e))

pub plain_part : (h : Held) (rs : List Record) (k : ℕ) → IsPlain h rs → has_base (take k rs) ≡ false
plain_part h rs k p = take_open rs k (is_open h rs p)

-- ---- a step with a base has at most a vote before it

abbrev based : Option (ℕ × ℕ) → ℕ → ℕ → List Record
based ballot index term = voted ballot ++ record_.Base index term ∷ []

behind_one : (P : Type 0) (k : ℕ) → nat_lt (suc k) 1 ≡ true → P
behind_one P k e = absurd (let lt : suc k < 1 = grind (arith, nat_tests) in omega (arith, lt))

behind_two : (P : Type 0) (k : ℕ) → nat_lt (suc (suc k)) 2 ≡ true → P
behind_two P k e = absurd (let lt : suc (suc k) < 2 = grind (arith, nat_tests) in omega (arith, lt))

one_open : (ballot : Option (ℕ × ℕ)) (index term k : ℕ) → nat_lt k (length (based ballot index term)) ≡ true → has_base (take k (based ballot index term)) ≡ false
one_open None index term zero e = refl
one_open None index term (suc k) e = behind_one _ k e
one_open (Some v) index term zero e = refl
one_open (Some v) index term (suc zero) e = refl
one_open (Some v) index term (suc (suc k)) e = behind_two _ k e

one_fits : (h : Held) (ballot : Option (ℕ × ℕ)) (index term k : ℕ) → nat_lt k (length (based ballot index term)) ≡ true → are_fit h (take k (based ballot index term)) ≡ true
one_fits h None index term zero e = refl
one_fits h None index term (suc k) e = behind_one _ k e
one_fits h (Some v) index term zero e = refl
one_fits h (Some v) index term (suc zero) e = refl
one_fits h (Some v) index term (suc (suc k)) e = behind_two _ k e

one_boots : (ballot : Option (ℕ × ℕ)) (index term b : ℕ) → boot_after b (based ballot index term) ≡ b
one_boots None index term b = refl
one_boots (Some v) index term b = refl

module _ (rs : List Record) (index term : ℕ) (p : IsBased rs index term) where
  short : (k : ℕ) → nat_lt k (length rs) ≡ true → nat_lt k (length (based p.ballot index term)) ≡ true
  short k e = subst (λ (xs : List Record). nat_lt k (length xs) ≡ true) p.is e

  pub based_part : (k : ℕ) → nat_lt k (length rs) ≡ true → has_base (take k rs) ≡ false
  based_part k e = ap (λ (xs : List Record). has_base (take k xs)) p.is ∙ one_open p.ballot index term k (short k e)

  pub based_fits : (h : Held) (k : ℕ) → nat_lt k (length rs) ≡ true → are_fit h (take k rs) ≡ true
  based_fits h k e = ap (λ (xs : List Record). are_fit h (take k xs)) p.is ∙ one_fits h p.ballot index term k (short k e)

  pub based_boots : (b : ℕ) → boot_after b rs ≡ b
  based_boots b = ap (boot_after b) p.is ∙ one_boots p.ballot index term b
