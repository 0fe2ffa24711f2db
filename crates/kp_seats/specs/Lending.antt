-- What becomes of the table once what it lent is given back.
use Rattle.std.specs.Prelude.{◌≡◌, ℕ, Option, IsSome}
use Rattle.std.specs.FinMap as map
use Rattle.std.specs.Borrow.{LendsSo, RattleType, MutBor, Fml}
use Rattle.kp_seats.specs.Seating.{Seating, holding}
use Rattle.kp_seats.specs.contracts.seats.Seats.{the_row}

-- the connection k, if it is there, holds the last value written through r, and nothing has changed where r is `None`
abbrev pub LendsSeat : (S : RattleType) → MutBor (Seating S.Denot) → ℕ → Option (MutBor S.Denot) → Fml
LendsSeat S t k r = LendsSo (the_row S) S t r (λ n w. IsSome (map.get t.now.seats k) → n ≡ holding t.now k w) (λ n. n ≡ t.now)
