-- Which answer belongs to which kind of event (this project's own).
use Rattle.std.specs.Prelude.{ℕ}
use Rattle.kp_event.specs.declared.event.NodeEventKind.{NodeEventKind}
use Rattle.kp_event.specs.declared.event.NodeEventKind.TheVariants as kind
use Rattle.kp_event.specs.declared.said.Said.{Said}
use Rattle.kp_event.specs.declared.said.Said.TheVariants as said

-- the row of a kind of event in the table of answers
abbrev pub row_of_kind : {M : Type 0} → NodeEventKind M → ℕ
row_of_kind (kind.Accept d) = 0
row_of_kind (kind.Client c b) = 1
row_of_kind (kind.Hangup c) = 2
row_of_kind (kind.Drain c) = 3
row_of_kind (kind.Deliver m) = 4
row_of_kind kind.Timeout = 4
row_of_kind kind.Beat = 5
row_of_kind kind.CommitOne = 6
row_of_kind kind.ExpireDue = 7
row_of_kind kind.Snapshot = 8

-- the row in which an answer stands
abbrev pub row_of_said : Said → ℕ
row_of_said (said.Conn n) = 0
row_of_said (said.Fed f) = 1
row_of_said (said.Hung b) = 2
row_of_said (said.Out p) = 3
row_of_said said.Raft = 4
row_of_said (said.Beat n) = 5
row_of_said (said.Done n) = 6
row_of_said (said.Expired n) = 7
row_of_said (said.Snapped n) = 8
