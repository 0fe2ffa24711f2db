-- All connections are changed at once, and what follows of it: the index of sessions, the watches, and what is ready.
use Rattle.std.specs.Prelude.{◌≡◌, ◌⊎◌, ◌-◌, ◌<◌, ◌^◌, ℕ, Bool, false, not, is_some, List, [], ◌∷◌, Option, Some, None, if◌then◌else◌}
use Rattle.std.specs.List.{filter}
use Rattle.std.specs.Option.{option_map}
use Rattle.std.specs.FinMap as map
use Rattle.kp_seats.specs.Serving.{Served}
use Rattle.kp_seats.specs.Seating.{Seating}
use Rattle.kp_seats.specs.Walked.{Becomes}
use Rattle.kp_watch.specs.declared.watch.Watch.{Watch}
use Rattle.kp_watch.specs.Watching.{dropped}
use Rattle.kp_conn.specs.declared.phase.Phase.{Phase}
use Rattle.kp_conn.specs.Connection.{is_lost}
use Rattle.kp_step.specs.declared.seat.Seat.{Seat}
use Rattle.kp_step.specs.Node.{Seats}
use Rattle.kp_step.specs.Step.{swept, count_lost, newly_ready, is_ready}
use Rattle.kp_node.specs.Holding.{served_by, served_at}

-- where a connection stands, if it is there
abbrev pub phase_at : Seats → ℕ → Option Phase
phase_at m k = option_map (λ (s : Seat). s.connection.phase) (map.get m k)

-- a connection that is there and serves no session
abbrev pub is_idle : Option Phase → Bool
is_idle None = false
is_idle (Some p) = not (is_some (served_by p))

-- a connection that was given up
abbrev pub is_given_up : Option Phase → Bool
is_given_up None = false
is_given_up (Some p) = is_lost p

-- those of the numbers that are of idle connections are taken out of the index of sessions
abbrev pub left_all : Seats → Served → List ℕ → Served
left_all m s [] = s
left_all m s (k ∷ ks) = left_all m (if is_idle (phase_at m k) then map.remove s k else s) ks

-- and the watches of those that were given up go
abbrev pub dropped_all : Seats → List Watch → List ℕ → List Watch
dropped_all m ws [] = ws
dropped_all m ws (k ∷ ks) = dropped_all m (if is_given_up (phase_at m k) then dropped ws k else ws) ks

-- the connections for which nothing is ready
abbrev pub unready_of : Seats → List ℕ
unready_of m = filter (λ k. not (is_ready (map.get m k))) (map.keys m)

-- what is known before a change: these are the connections for which nothing is ready, so many were given up, and there are few enough to be counted
pub record IsBefore (m : Seats) (unready : List ℕ) (count : ℕ) : Type 0 where
  pub listed : unready ≡ unready_of m
  pub lost : count ≡ count_lost m
  pub few : map.len m < 2 ^ 32

-- a change that leaves a connection the session that it serves, or none
abbrev pub Loosens : (ℕ → Seat → Seat → Type 0) → Type 0
Loosens R = (k : ℕ) (s s' : Seat) → R k s s' → (served_by s'.connection.phase ≡ served_by s.connection.phase) ⊎ (served_by s'.connection.phase ≡ None)

-- every connection was changed so, and the rest follows
pub record IsTurned (R : ℕ → Seat → Seat → Type 0) (t : Seating Seat) (ws : List Watch) (u : Seating Seat) (vs : List Watch) (list : List ℕ) (count : ℕ) : Type 0 where
  pub each : (q : ℕ) → Becomes (R q) (map.get t.seats q) (map.get u.seats q)
  pub next : u.next ≡ t.next
  pub served : (q : ℕ) → map.get u.sessions q ≡ served_at (map.get u.seats q)
  pub watches : vs ≡ swept u.seats ws
  pub ready : list ≡ newly_ready t.seats u.seats
  pub lost : count ≡ count_lost u.seats - count_lost t.seats
