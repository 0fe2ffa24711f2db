-- A node applies the next committed entry.
use Rattle.std.specs.Prelude.{◌≡◌, ◌+◌, ℕ, List, Option, Some, None}
use Rattle.kp_model.specs.LogEntry.{LogEntry}
use Rattle.kp_raft.specs.Parts.{is_leader}
use Rattle.kp_event.specs.declared.event.NodeEventKind.TheVariants as kind
use Rattle.kp_event.specs.declared.said.Said.TheVariants as says
use Rattle.kp_event.specs.declared.thought.Standing.{Standing}
use Rattle.kp_snapshot.specs.Snapshots.{Snapshot}
use Rattle.kp_step.specs.Choices.{Choices}
use Rattle.kp_step.specs.Node.{Node}
use Rattle.kp_step.specs.Applying.{upcoming}
use Rattle.kp_step.specs.Asking.{reacted, commit_input}
use Rattle.kp_step.specs.Step.{Stepped, together, commit_turn}
use Rattle.kp_node.specs.declared.applying.Applied.{Applied}
use Rattle.kp_node.specs.declared.joining.Ground.{Ground}
use Rattle.kp_node.specs.declared.outcome.Outcome.{Outcome}
use Rattle.kp_node.specs.Applied.{IsApplied}
use Rattle.kp_node.specs.Parts.{Parts}
use Rattle.kp_node.specs.Steps.{images}

-- the step, where this entry is next, or none
abbrev pub commit_with : Choices → Node → ℕ → Option LogEntry → Stepped Snapshot
commit_with ch x now e = together images ch x kind.CommitOne (reacted x (commit_input ch x now e)) None (commit_turn ch x now e)

abbrev pub commit_step : Choices → Node → ℕ → Stepped Snapshot
commit_step ch x now = commit_with ch x now (upcoming x)

-- what stays the same of a node throughout an event
abbrev pub ground_of : Parts → ℕ → Ground
ground_of p now = record { me = p.member.node; boot = p.boot; term = p.member.held.term; leader = p.member.vars.leader; leads = is_leader p.member.vars.role; now = now }

-- the entry was applied, and an event more was taken
pub record IsCommitted (now : ℕ) (e : LogEntry) (es : List LogEntry) (x : Parts) (a : Applied) (y : Parts) : Type 0 where
  pub applied : IsApplied (ground_of x now) e es x.member x.store x.seating x.watches x.heard a y.member y.store y.seating y.watches y.heard
  pub spoken : y.spoken ≡ x.spoken
  pub boot : y.boot ≡ x.boot
  pub events : y.events ≡ x.events + 1

-- what is given of it
abbrev pub given_applied : Applied → Standing → Outcome
given_applied a standing = record { said = says.Done (Some a.index); records = a.handed.records; image = None; mail = a.handed.mail; cut = None; lost = a.lost; standing = standing; ready = a.ready }
