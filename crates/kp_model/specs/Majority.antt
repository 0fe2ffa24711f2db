-- Majorities of the members, which carry the numbers 1 to n.
use Rattle.std.specs.Prelude.{ℕ, zero, suc, ◌+◌, ◌*◌, ◌<◌, Bool, cond, nat_lt}

-- how many of the members 1 to n pass the test f
abbrev pub count : ℕ → (ℕ → Bool) → ℕ
count zero f = 0
count (suc n) f = cond (f (suc n)) 1 0 + count n f

-- more than half of the members 1 to n pass the test f
abbrev pub is_majority : ℕ → (ℕ → Bool) → Bool
is_majority n f = nat_lt n (2 * count n f)

-- the same as a proposition; the law `majorities_are_counted` says so
pub record IsMajority (n : ℕ) (f : ℕ → Bool) : Type 0 where
  pub most : n < 2 * count n f
