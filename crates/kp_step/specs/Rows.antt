-- What each event is answered.
use Rattle.std.specs.Prelude.{◌≡◌, ◌+◌, ℕ, if◌then◌else◌, List, Option, Some, None, length}
use Rattle.std.specs.FinMap as map
use Rattle.kp_model.specs.LogEntry.{LogEntry}
use Rattle.kp_raft.specs.declared.mail.Mail.{Mail}
use Rattle.kp_event.specs.declared.event.NodeEvent.{NodeEvent}
use Rattle.kp_event.specs.declared.event.NodeEventKind.{NodeEventKind}
use Rattle.kp_event.specs.declared.event.NodeEventKind.TheVariants as kind
use Rattle.kp_event.specs.declared.said.FedWord.{FedWord}
use Rattle.kp_event.specs.declared.said.FedWord.TheVariants as fed
use Rattle.kp_event.specs.declared.said.OutPiece.{OutPiece}
use Rattle.kp_event.specs.declared.said.Said.TheVariants as says
use Rattle.kp_event.specs.Kinds.{row_of_kind, row_of_said}
use Rattle.kp_conn.specs.Connection.{is_over}
use Rattle.kp_step.specs.declared.seat.Seat.{Seat}
use Rattle.kp_step.specs.Choices.{Choices}
use Rattle.kp_step.specs.Node.{Node, Images}
use Rattle.kp_step.specs.Applying.{upcoming}
use Rattle.kp_step.specs.Asking.{Words, fed_end, taken_by, expiries}
use Rattle.kp_step.specs.Step.{Stepped, step, fed_word, piece_of}

-- of bytes: that there is no such connection or it is closing, or how they were read
abbrev pub word_for : List ℕ → Option Seat → FedWord
word_for bytes None = fed.Unknown
word_for bytes (Some s) = if is_over s.connection.phase then fed.Unknown else fed_word (fed_end s bytes)

-- of a drain: what was ready, or that there is no such connection
abbrev pub piece_for : Option Seat → Option OutPiece
piece_for None = None
piece_for (Some s) = Some (piece_of s.connection)

-- of a commit: the index of the entry that is applied, or that there is none to apply
abbrev pub index_for : Node → Option LogEntry → Option ℕ
index_for x None = None
index_for x (Some e) = Some (x.state.applied + 1)

module _ {I : Type 0} where
  abbrev pub IsSaidTo : Node → ℕ → NodeEventKind (Mail I) → Stepped I → Type 0
  IsSaidTo x now (kind.Accept draw) o = o.said ≡ says.Conn x.next
  IsSaidTo x now (kind.Client k bytes) o = o.said ≡ says.Fed (word_for bytes (map.get x.seats k))
  IsSaidTo x now (kind.Hangup k) o = o.said ≡ says.Hung (map.contains_key x.seats k)
  IsSaidTo x now (kind.Drain k) o = o.said ≡ says.Out (piece_for (map.get x.seats k))
  IsSaidTo x now (kind.Deliver m) o = o.said ≡ says.Raft
  IsSaidTo x now kind.Timeout o = o.said ≡ says.Raft
  IsSaidTo x now kind.Beat o = o.said ≡ says.Beat (length o.mail)
  IsSaidTo x now kind.CommitOne o = o.said ≡ says.Done (index_for x (upcoming x))
  IsSaidTo x now kind.ExpireDue o = o.said ≡ says.Expired (length (taken_by x now (expiries x now)))
  IsSaidTo x now kind.Snapshot o = o.said ≡ says.Snapped o.node.held.log.base

-- of each step of each node: what is said, and that it is an answer to an event of that kind
abbrev pub StepsSay : Type 0 → Type 0
StepsSay I = (words : Words) (im : Images I) (ch : Choices) (x : Node) (v : NodeEvent (Mail I)) → IsSaidTo x v.now v.kind (step words im ch x v)

abbrev pub AnswersFit : Type 0 → Type 0
AnswersFit I = (words : Words) (im : Images I) (ch : Choices) (x : Node) (v : NodeEvent (Mail I)) → row_of_said (step words im ch x v).said ≡ row_of_kind v.kind
