-- The connections of a node: what each holds, and the session that it serves.
use Rattle.std.specs.Prelude.{◌≡◌, ◌+◌, ◌<◌, ℕ, Bool, true, false, ◌&&◌, nat_lt, List, [], ◌∷◌, Option, Some, None, IsSome, refl}
use Rattle.std.specs.List.{filter}
use Rattle.std.specs.Ordering.{nat_cmp}
use Rattle.std.specs.Coded.{Coded, code_by, coded×, coded_ℕ, coded_bool}
use Rattle.std.specs.FinMap as map
use Rattle.std.specs.FinMap.{FinMap}
use Rattle.kp_seats.specs.Serving.{Served, without}

pub record Seating (S : Type 0) : Type 0 where
  -- the number of the next connection
  pub next : ℕ
  -- what each connection holds, by its number
  pub seats : FinMap nat_cmp S
  -- the session that each connection serves, if it serves one
  pub sessions : Served
  -- whether there is room for one connection more that serves a session
  pub has_room : Bool

module _ {S : Type 0} where
  -- it is stored as the tuple of its fields
  abbrev pub seating_code : Coded S → Coded (Seating S)
  seating_code s = code_by (ℕ × (FinMap nat_cmp S × (Served × Bool))) (coded× coded_ℕ (coded× (map.code coded_ℕ s) (coded× (map.code coded_ℕ coded_ℕ) coded_bool)))
      (λ t. (t.next, (t.seats, (t.sessions, t.has_room)))) (λ p. record { next = p.0; seats = p.1.0; sessions = p.1.1.0; has_room = p.1.1.1 }) (λ _. refl)

  -- no connections; the first one has the number 1
  abbrev pub nobody : Seating S
  nobody = record { next = 1; seats = map.empty; sessions = map.empty; has_room = false }

  -- one connection more, with the next number
  abbrev pub accepted : Seating S → S → Seating S
  accepted t seat = record { next = t.next + 1; seats = map.insert t.seats t.next seat; sessions = t.sessions; has_room = t.has_room }

  -- the connection holds this
  abbrev pub holding : Seating S → ℕ → S → Seating S
  holding t k seat = record { next = t.next; seats = map.insert t.seats k seat; sessions = t.sessions; has_room = t.has_room }

  -- without the connection, which serves no session either
  abbrev pub removed : Seating S → ℕ → Seating S
  removed t k = record { next = t.next; seats = map.remove t.seats k; sessions = map.remove t.sessions k; has_room = t.has_room }

  -- with room for one connection more that serves a session
  abbrev pub roomy : Seating S → Seating S
  roomy t = record { next = t.next; seats = t.seats; sessions = t.sessions; has_room = true }

  -- with such room only where this says so
  abbrev pub roomy_if : Seating S → Bool → Seating S
  roomy_if t kept = record { next = t.next; seats = t.seats; sessions = t.sessions; has_room = t.has_room && kept }

  -- the connection serves the session, and no other one does; the room is used up
  abbrev pub joined : Seating S → ℕ → ℕ → Seating S
  joined t k session = record { next = t.next; seats = t.seats; sessions = map.insert (without t.sessions session) k session; has_room = false }

  -- the connection serves no session
  abbrev pub left : Seating S → ℕ → Seating S
  left t k = record { next = t.next; seats = t.seats; sessions = map.remove t.sessions k; has_room = t.has_room }

  -- no connection serves the session
  abbrev pub ended : Seating S → ℕ → Seating S
  ended t session = record { next = t.next; seats = t.seats; sessions = without t.sessions session; has_room = t.has_room }

  -- ---- connections in the order of their numbers

  -- the numbers above k
  abbrev pub above : FinMap nat_cmp S → ℕ → List ℕ
  above m k = filter (nat_lt k) (map.keys m)

  -- the least number above k, or that there is none
  abbrev pub IsNext : FinMap nat_cmp S → ℕ → Option ℕ → Type 0
  IsNext m k None = (q : ℕ) → k < q → map.get m q ≡ None
  IsNext m k (Some n) = (k < n) × IsSome (map.get m n) × ((q : ℕ) → k < q → q < n → map.get m q ≡ None)

  -- the numbers above k are this one and those above it, or none
  abbrev pub Leads : FinMap nat_cmp S → ℕ → Option ℕ → Type 0
  Leads m k None = above m k ≡ []
  Leads m k (Some n) = above m k ≡ n ∷ above m n
