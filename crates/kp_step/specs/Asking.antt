-- What Raft is asked at an event: at most one thing, found from the node as it stands.
use Rattle.std.specs.Prelude.{ℕ, ◌==◌, ◌&&◌, max, min, nat_lt, if◌then◌else◌, Bool, true, false, List, [], ◌∷◌, length, map, replicate, Option, Some, None}
use Rattle.std.specs.FinMap as map
use Rattle.std.specs.Str.{bytes_eq}
use Rattle.kp_model.specs.declared.entry.Body.{Body}
use Rattle.kp_model.specs.declared.entry.Body.TheVariants as body
use Rattle.kp_model.specs.LogEntry.{LogEntry}
use Rattle.kp_entry.specs.Log.{term_of}
use Rattle.kp_raft.specs.declared.append.AppendMail.{AppendMail}
use Rattle.kp_raft.specs.declared.append.Weigh.{Weigh}
use Rattle.kp_raft.specs.declared.append.Weigh.TheVariants as weigh
use Rattle.kp_raft.specs.declared.append.Weighed.{Weighed}
use Rattle.kp_raft.specs.declared.event.RaftEvent.{RaftEvent}
use Rattle.kp_raft.specs.declared.event.RaftEvent.TheVariants as raft
use Rattle.kp_raft.specs.declared.mail.Mail.{Mail}
use Rattle.kp_raft.specs.declared.mail.Mail.TheVariants as mail
use Rattle.kp_raft.specs.Appends.{lagging}
use Rattle.kp_raft.specs.Parts.{Outcome, nothing}
use Rattle.kp_raft.specs.Steps.{passes, take, react, image_of, weighed}
use Rattle.kp_event.specs.declared.event.NodeEventKind.{NodeEventKind}
use Rattle.kp_event.specs.declared.event.NodeEventKind.TheVariants as kind
use Rattle.kp_expiry.specs.Due.{due}
use Rattle.kp_conn.specs.declared.fed.FedEnd.{FedEnd}
use Rattle.kp_conn.specs.declared.fed.FedEnd.TheVariants as ends
use Rattle.kp_conn.specs.Connection.{is_over}
use Rattle.kp_conn.specs.Fed.{fed}
use Rattle.kp_step.specs.Choices.{Choices}
use Rattle.kp_step.specs.declared.seat.Seat.{Seat}
use Rattle.kp_step.specs.Node.{Node, Images, last, leads}
use Rattle.kp_step.specs.Handing.{Served, serves, ground, desk, proposed_all}
use Rattle.kp_step.specs.Committing.{committed}
use Rattle.kp_step.specs.Applying.{upcoming}
use lib.Chars.{codes}

-- the text that a node answers to a word
abbrev pub Words : Type 0
Words = Node → List ℕ → List ℕ

-- nothing, an event, or an append of which so many entries are taken
pub data Input (I : Type 0) : Type 0 where
  idle : Input I
  asks : RaftEvent I → Input I
  appends : AppendMail → ℕ → Input I

-- what Raft makes of it
unfoldable pub reacted : {I : Type 0} → Node → Input I → Outcome I
reacted x idle = nothing x.running
reacted x (asks e) = react x.members x.me x.held x.running e
reacted x (appends m j) = take x.members x.me x.held x.running m j

-- the image that it takes
unfoldable pub installed : {I : Type 0} → Node → Input I → Option I
installed x idle = None
installed x (asks e) = image_of x.members x.me x.held x.running e
installed x (appends m j) = None

-- those of the bodies that a leader appends
abbrev pub taken_by : Node → ℕ → List Body → List Body
taken_by x now bs = if leads x then (proposed_all x.held.term now (desk x) bs).bodies else []

-- bodies are proposed where there are any
abbrev pub propose_if : {I : Type 0} → ℕ → List Body → Input I
propose_if now [] = idle
propose_if now (b ∷ bs) = asks (raft.Propose now (b ∷ bs))

-- ---- bytes of a client

-- what the bytes of connection k make
unfoldable pub client_served : Words → Choices → Node → ℕ → ℕ → List ℕ → Seat → Served
client_served words ch x now k bytes s = serves (ground now x.state x) (ch.luck k) k s.draw (words x) (desk x) x.watches s.connection bytes

-- how their reading ended
abbrev pub fed_end : Seat → List ℕ → FedEnd
fed_end s bytes = (fed s.connection bytes).1.end

abbrev pub is_csnp : FedEnd → Bool
is_csnp ends.Ok = false
is_csnp (ends.Bad at) = false
is_csnp (ends.Word w) = bytes_eq w (codes "csnp")

module _ {I : Type 0} where
  abbrev pub client_input : Words → Choices → Node → ℕ → ℕ → List ℕ → Option Seat → Input I
  client_input words ch x now k bytes None = idle
  client_input words ch x now k bytes (Some s) =
      if is_over s.connection.phase then idle
      else (if is_csnp (fed_end s bytes) then asks (raft.Compact x.state.applied)
      else propose_if now (client_served words ch x now k bytes s).desk.bodies)

-- ---- mail

abbrev pub is_taken : Weigh → Bool
is_taken weigh.Dropped = false
is_taken weigh.Refused = false
is_taken weigh.Taken = true

-- how many entries of an append are taken: those that the log has, and of the others as many as find memory
abbrev pub entries_taken : Option ℕ → ℕ → Weighed → ℕ
entries_taken None n w = n
entries_taken (Some room) n w = if is_taken w.kind then max w.matched (min room n) else n

abbrev pub append_taken : Option ℕ → Node → AppendMail → ℕ
append_taken room x m = entries_taken room (length m.entries) (weighed x.members x.me x.held x.running m)

-- the number, where it is not all of them
abbrev pub cut_at : ℕ → ℕ → Option ℕ
cut_at j n = if nat_lt j n then Some j else None

module _ {I : Type 0} where
  abbrev pub cut_of : Option ℕ → Node → NodeEventKind (Mail I) → Option ℕ
  cut_of room x (kind.Deliver (mail.Append m)) = cut_at (append_taken room x m) (length m.entries)
  cut_of room x v = None

  -- an image that a message brings is of the index and the term that the message names
  abbrev pub is_whole : Images I → ℕ → ℕ → I → Bool
  is_whole im index index_term image = (im.shows image).applied == index && im.term image == index_term

  -- whether a leader takes the body of a Forward: it is another member's, and of the leader's term
  abbrev pub may_propose : Node → Mail I → ℕ → Bool
  may_propose x m term = passes x.members x.me (last x) m && (leads x && term == x.held.term)

  -- the leader takes the body of a Forward of its term; all other mail is for Raft
  abbrev pub mail_as : Images I → Option ℕ → Node → ℕ → Mail I → Mail I → Input I
  mail_as im room x now m (mail.VoteReq term from end end_term) = asks (raft.Deliver m)
  mail_as im room x now m (mail.VoteRep term from granted) = asks (raft.Deliver m)
  mail_as im room x now m (mail.Append append) = appends append (append_taken room x append)
  mail_as im room x now m (mail.AppendRep term from ok end heard) = asks (raft.Deliver m)
  mail_as im room x now m (mail.Install term from index index_term image) = if is_whole im index index_term image then asks (raft.Deliver m) else idle
  mail_as im room x now m (mail.InstallRep term from index) = asks (raft.Deliver m)
  mail_as im room x now m (mail.Forward term from b) = if may_propose x m term then propose_if now (taken_by x now (b ∷ [])) else asks (raft.Deliver m)

  abbrev pub mail_input : Images I → Option ℕ → Node → ℕ → Mail I → Input I
  mail_input im room x now m = mail_as im room x now m m

-- ---- all events

-- the sessions whose end a leader proposes: those that were not heard in time
abbrev pub expiries : Node → ℕ → List Body
expiries x now = map (λ id. body.Expire id) (due x.heard now)

module _ {I : Type 0} where
  -- the image of the committed state
  abbrev pub own_image : Images I → Node → I
  own_image im x = im.made x.state (term_of x.held.log x.state.applied)

  abbrev pub commit_input : Choices → Node → ℕ → Option LogEntry → Input I
  commit_input ch x now None = idle
  commit_input ch x now (Some e) = propose_if now (committed ch x now e).desk.bodies

  unfoldable pub asked : Words → Images I → Choices → Node → ℕ → NodeEventKind (Mail I) → Input I
  asked words im ch x now (kind.Accept draw) = idle
  asked words im ch x now (kind.Client k bytes) = client_input words ch x now k bytes (map.get x.seats k)
  asked words im ch x now (kind.Hangup k) = idle
  asked words im ch x now (kind.Drain k) = idle
  asked words im ch x now (kind.Deliver m) = mail_input im ch.room x now m
  asked words im ch x now kind.Timeout = asks raft.Timeout
  asked words im ch x now kind.Beat = asks (raft.Beat x.state.applied (replicate (lagging x.members x.me x.held x.running) (own_image im x)))
  asked words im ch x now kind.CommitOne = commit_input ch x now (upcoming x)
  asked words im ch x now kind.ExpireDue = propose_if now (taken_by x now (expiries x now))
  asked words im ch x now kind.Snapshot = asks (raft.Compact x.state.applied)
