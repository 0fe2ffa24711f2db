-- Members carry the numbers 1 to n; functions of a number, and counts of members.
use Rattle.std.specs.Prelude.{ℕ, zero, suc, ◌+◌, Bool, true, false, cond, not, ◌&&◌, nat_eq, nat_lt, nat_le, List, [], ◌∷◌, ◌++◌}

-- the greatest index, term and time: 2 ^ 62
abbrev pub MAX : ℕ
MAX = 4611686018427387904

-- f, but x at k
abbrev pub set_at : {X : Type 0} → (ℕ → X) → ℕ → X → ℕ → X
set_at f k x j = cond (nat_eq j k) x (f j)

-- x at each number that a member may have, and 0 at others
abbrev pub each : ℕ → ℕ → ℕ
each x k = cond (nat_lt k 8) x 0

-- a member other than me
abbrev pub is_peer : ℕ → ℕ → ℕ → Bool
is_peer n me k = (nat_le 1 k && nat_le k n) && not (nat_eq k me)

-- what f makes for each member other than me, in order
abbrev pub for_peers : {X : Type 0} → ℕ → ℕ → (ℕ → List X) → List X
for_peers zero me f = []
for_peers (suc n) me f = for_peers n me f ++ cond (nat_eq (suc n) me) [] (f (suc n))

-- the greatest index above old, and at most i, that passes the test f; old where there is none
abbrev pub greatest : ℕ → (ℕ → Bool) → ℕ → ℕ
greatest zero f old = old
greatest (suc i) f old = cond (nat_lt old (suc i) && f (suc i)) (suc i) (greatest i f old)
