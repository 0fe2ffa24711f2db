-- A node: what it holds, what happens to it, and what it says.
use Rattle.std.specs.Prelude.{ℕ, Bool, List}
use Rattle.std.specs.Ordering.{nat_cmp}
use Rattle.std.specs.FinMap.{FinMap}
use Rattle.kp_model.specs.LogEntry.{LogEntry}
use Rattle.kp_model.specs.State.{State}
use Rattle.kp_model.specs.Store.{after}
use Rattle.kp_entry.specs.Log.{last_index, behind}
use Rattle.kp_entry.specs.Held.{Held}
use Rattle.kp_raft.specs.Parts.{Running, is_leader}
use Rattle.kp_expiry.specs.declared.heard.Heard.{Heard}
use Rattle.kp_watch.specs.declared.watch.Watch.{Watch}
use Rattle.kp_step.specs.declared.seat.Seat.{Seat}

-- the connections by their numbers
abbrev pub Seats : Type 0
Seats = FinMap nat_cmp Seat

pub record Node : Type 0 where
  -- its number, how many members the cluster has, and how often it was started
  pub me : ℕ
  pub members : ℕ
  pub boot : ℕ
  -- the variables of Raft: what is kept over a stop, and what isn't
  pub held : Held
  pub running : Running
  -- the committed state; the entries of the log behind its index are unapplied
  pub state : State
  pub seats : Seats
  -- the number of the next connection
  pub next : ℕ
  pub watches : List Watch
  -- when each session of the committed state was last heard
  pub heard : FinMap nat_cmp Heard
  -- the sessions that were heard since the leader was told of some, each once
  pub spoken : List ℕ

-- the entries of the log that aren't applied
abbrev pub unapplied : Node → List LogEntry
unapplied x = behind x.held.log x.state.applied

-- the uncommitted state: the replay of those on the committed one
abbrev pub latest : Node → State
latest x = after x.state (unapplied x)

abbrev pub last : Node → ℕ
last x = last_index x.held.log

abbrev pub leads : Node → Bool
leads x = is_leader x.running.role

-- what images are of: a state, and the term of the entry of its index
pub record Images (I : Type 0) : Type 0 where
  pub shows : I → State
  pub term : I → ℕ
  pub made : State → ℕ → I

-- each session of the state was heard at this time
abbrev pub heard_at : ℕ → ℕ → ℕ → Heard
heard_at now id timeout = record { heard = now; timeout = timeout }
