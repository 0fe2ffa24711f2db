-- A connection takes bytes: what it becomes, and what a node's parts do.
use Rattle.std.specs.Prelude.{◌≡◌, ℕ, List, [], if◌then◌else◌, None}
use Rattle.std.specs.Ordering.{nat_cmp}
use Rattle.std.specs.FinMap.{FinMap}
use Rattle.kp_model.specs.State.{State}
use Rattle.kp_model.specs.Store.{Store}
use Rattle.kp_raft.specs.Members.{Member}
use Rattle.kp_expiry.specs.declared.heard.Heard.{Heard}
use Rattle.kp_watch.specs.declared.watch.Watch.{Watch}
use Rattle.kp_seats.specs.Seating.{Seating, holding, left}
use Rattle.kp_conn.specs.declared.fed.FedEnd.{FedEnd}
use Rattle.kp_conn.specs.declared.phase.Phase.{Phase}
use Rattle.kp_conn.specs.declared.phase.Phase.TheVariants as phase
use Rattle.kp_conn.specs.Connection.{Connection, is_over}
use Rattle.kp_conn.specs.Fed.{fed}
use Rattle.kp_step.specs.declared.seat.Seat.{Seat}
use Rattle.kp_step.specs.Choices.{Luck, Choices}
use Rattle.kp_step.specs.Committing.{hear}
use Rattle.kp_step.specs.Handing.{Served, serves}
use Rattle.kp_step.specs.Step.{with_spoken}
use Rattle.kp_node.specs.declared.joining.Ground.{Ground}
use Rattle.kp_node.specs.declared.serving.Handed.{Handed}
use Rattle.kp_node.specs.Deciding.{kept_watches}
use Rattle.kp_node.specs.Joining.{ground_in, desk_of}
use Rattle.kp_node.specs.Proposing.{AtDesk}
use Rattle.kp_node.specs.Serving.{HandsOver}

-- what the bytes make of connection k, by this luck
abbrev pub taken : Ground → Luck → ℕ → List ℕ → (List ℕ → List ℕ) → Store → List Watch → Connection → List ℕ → Served
taken g luck k draw text x ws c bytes = serves (ground_in g x.state) luck k draw text (desk_of x [] []) ws c bytes

-- connection k took the bytes, and what was handed in went to Raft, into the storage and into mail
pub record Takes (g : Ground) (k : ℕ) (draw : List ℕ) (text : List ℕ → List ℕ) (bytes : List ℕ) (m : Member) (x : Store) (ws : List Watch) (c : Connection) (n : Member) (y : Store) (ws' : List Watch) (c' : Connection) (o : Handed) : Type 0 where
  pub luck : Luck
  pub connection : c' ≡ (taken g luck k draw text x ws c bytes).connection
  pub watches : ws' ≡ kept_watches k c'.phase (taken g luck k draw text x ws c bytes).watches
  pub over : HandsOver g m (taken g luck k draw text x ws c bytes).desk.bodies (taken g luck k draw text x ws c bytes).desk.forwards o n
  pub at : AtDesk x g.term g.now y (taken g luck k draw text x ws c bytes).desk.bodies (taken g luck k draw text x ws c bytes).desk

-- the connections with this one at k, which serves no session any more where it is over
abbrev pub seated_at : Seating Seat → ℕ → Seat → Seating Seat
seated_at t k s = if is_over s.connection.phase then left (holding t k s) k else holding t k s

-- how the reading of bytes ends
abbrev pub end_in : Connection → List ℕ → FedEnd
end_in c bytes = (fed c bytes).1.end

-- the session of a live connection is heard
abbrev pub heard_by : ℕ → State → FinMap nat_cmp Heard → Phase → FinMap nat_cmp Heard
heard_by now s m (phase.Live id e n) = hear now s m id
heard_by now s m p = m

abbrev pub spoken_by : List ℕ → Phase → List ℕ
spoken_by ids (phase.Live id e n) = with_spoken ids id
spoken_by ids p = ids

-- the same luck for each connection
abbrev pub with_luck : Luck → Choices
with_luck luck = record { room = None; luck = λ k. luck }
