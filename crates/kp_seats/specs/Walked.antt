-- What each connection holds is changed.
use Rattle.std.specs.Prelude.{◌≡◌, ℕ, ◌<◌, ◌≤◌, Option, Some, None}
use Rattle.std.specs.FinMap as map
use Rattle.kp_seats.specs.Seating.{Seating}

module _ {S : Type 0} where
  -- what one place becomes by a change: nothing comes or goes
  abbrev pub Becomes : (S → S → Type 0) → Option S → Option S → Type 0
  Becomes R None b = b ≡ None
  Becomes R (Some x) b = (y : S) × (b ≡ Some y) × R x y

  -- all but what connections hold
  abbrev pub SameBeside : Seating S → Seating S → Type 0
  SameBeside t u = (u.next ≡ t.next) × (u.sessions ≡ t.sessions) × (u.has_room ≡ t.has_room)

  -- connection k is changed, if it is there, and no other
  pub record IsStep (R : ℕ → S → S → Type 0) (k : ℕ) (t u : Seating S) : Type 0 where
    pub here : Becomes (R k) (map.get t.seats k) (map.get u.seats k)
    pub others : (q : ℕ) → (q ≡ k → ⊥) → map.get u.seats q ≡ map.get t.seats q
    pub beside : SameBeside t u

  -- those up to k are changed, and no others
  pub record IsPart (R : ℕ → S → S → Type 0) (k : ℕ) (t u : Seating S) : Type 0 where
    pub done : (q : ℕ) → 0 < q → q ≤ k → Becomes (R q) (map.get t.seats q) (map.get u.seats q)
    pub others : (q : ℕ) → k < q → map.get u.seats q ≡ map.get t.seats q
    pub zero : map.get u.seats 0 ≡ map.get t.seats 0
    pub beside : SameBeside t u

  -- every connection is changed, and nothing else
  pub record IsWalk (R : ℕ → S → S → Type 0) (t u : Seating S) : Type 0 where
    pub each : (q : ℕ) → Becomes (R q) (map.get t.seats q) (map.get u.seats q)
    pub beside : SameBeside t u
