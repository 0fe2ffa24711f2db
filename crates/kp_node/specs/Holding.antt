-- What holds of a node's parts: how they agree.
use Rattle.std.specs.Prelude.{◌≡◌, ℕ, ◌≤◌, ◌^◌, true, List, Option, Some, None}
use Rattle.std.specs.List.{AllByRecursion}
use Rattle.std.specs.FinMap as map
use Rattle.kp_entry.specs.Log.{behind}
use Rattle.kp_watch.specs.declared.watch.Watch.{Watch}
use Rattle.kp_conn.specs.declared.phase.Phase.{Phase}
use Rattle.kp_conn.specs.declared.phase.Phase.TheVariants as phase
use Rattle.kp_step.specs.declared.seat.Seat.{Seat}
use Rattle.kp_step.specs.Node.{Seats}
use Rattle.kp_step.specs.Step.{keeps_watches}
use Rattle.kp_step.specs.Runs.{AllRest}
use Rattle.kp_node.specs.Parts.{Parts, node_of}

-- the session that a connection serves
abbrev pub served_by : Phase → Option ℕ
served_by (phase.Live s e n) = Some s
served_by p = None

abbrev pub served_at : Option Seat → Option ℕ
served_at None = None
served_at (Some s) = served_by s.connection.phase

-- each watch is of a connection that is there and was not given up
abbrev pub AreKept : Seats → List Watch → Type 0
AreKept seats ws = AllByRecursion (λ (w : Watch). keeps_watches (map.get seats w.conn) ≡ true) ws

pub record Holds (p : Parts) : Type 0 where
  pub few : p.member.members ≤ 7
  -- of each connection, nothing waits, or the front is a write whose entry isn't applied
  pub rest : AllRest (node_of p)
  pub kept : AreKept p.seating.seats p.watches
  -- the storage's unapplied entries are those of the log behind the applied index, which is not below the base nor above the commit index
  pub unapplied : p.store.unapplied ≡ behind p.member.held.log p.store.state.applied
  pub from : p.member.held.log.base ≤ p.store.state.applied
  pub to : p.store.state.applied ≤ p.member.vars.commit
  -- the index of sessions is that of the live connections
  pub served : (k : ℕ) → map.get p.seating.sessions k ≡ served_at (map.get p.seating.seats k)
  pub counted : p.events ≤ 2 ^ 62
