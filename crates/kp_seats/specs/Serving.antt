-- Which connection serves which session.
use Rattle.std.specs.Prelude.{◌≡◌, ℕ, Bool, false, not, nat_eq, Option, Some, None, refl}
use Rattle.std.specs.Ordering.{nat_cmp}
use Rattle.std.specs.Coded.{Coded, code_by, coded×, coded_ℕ, coded_bool}
use Rattle.std.specs.FinMap as map
use Rattle.std.specs.FinMap.{FinMap}

-- the session that each connection serves, if it serves one
abbrev pub Served : Type 0
Served = FinMap nat_cmp ℕ

-- whether it is this number
abbrev pub is_that : Option ℕ → ℕ → Bool
is_that None n = false
is_that (Some m) n = nat_eq m n

-- whether the connection serves the session
abbrev pub serves : Served → ℕ → ℕ → Bool
serves m session k = is_that (map.get m k) session

-- without whatever connection serves the session
unfoldable pub without : Served → ℕ → Served
without m session = map.retain_keys m (λ k. not (serves m session k))

-- the one connection that serves the session, or that none does
abbrev pub IsServer : Served → ℕ → Option ℕ → Type 0
IsServer m session None = (q : ℕ) → serves m session q ≡ false
IsServer m session (Some k) = (q : ℕ) → serves m session q ≡ nat_eq k q

-- who serves whom, and whether there is room for one connection more that serves a session
pub record Serving : Type 0 where
  pub sessions : Served
  pub has_room : Bool

-- it is stored as the pair of its fields
abbrev pub serving_code : Coded Serving
serving_code = code_by (Served × Bool) (coded× (map.code coded_ℕ coded_ℕ) coded_bool) (λ s. (s.sessions, s.has_room)) (λ p. record { sessions = p.0; has_room = p.1 }) (λ _. refl)
