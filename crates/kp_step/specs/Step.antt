-- The step of a node: a function of the node, an event and the choices.
use Rattle.std.specs.Prelude.{ℕ, ◌+◌, ◌-◌, ◌==◌, ◌&&◌, ◌||◌, not, nat_lt, if◌then◌else◌, Bool, true, false, List, [], ◌∷◌, ◌++◌, length, map, Option, Some, None, is_some}
use Rattle.std.specs.List.{list_any, filter}
use Rattle.std.specs.Ordering.{nat_cmp}
use Rattle.std.specs.FinMap as map
use Rattle.std.specs.FinMap.{FinMap}
use Rattle.kp_model.specs.declared.entry.Body.{Body}
use Rattle.kp_model.specs.declared.session.Session.{Session}
use Rattle.kp_model.specs.LogEntry.{LogEntry}
use Rattle.kp_model.specs.State.{State, Sessions}
use Rattle.kp_model.specs.Step.{Outcome, apply}
use Rattle.kp_entry.specs.declared.record.Record.{Record}
use Rattle.kp_entry.specs.declared.record.Record.TheVariants as record_
use Rattle.kp_entry.specs.Held.{replay}
use Rattle.kp_entry.specs.Log.{last_index}
use Rattle.kp_raft.specs.declared.mail.Mail.{Mail}
use Rattle.kp_raft.specs.declared.mail.Mail.TheVariants as mail
use Rattle.kp_raft.specs.Parts as raft
use Rattle.kp_raft.specs.Parts.{is_leader}
use Rattle.kp_raft.specs.Steps.{passes}
use Rattle.kp_event.specs.declared.event.NodeEvent.{NodeEvent}
use Rattle.kp_event.specs.declared.event.NodeEventKind.{NodeEventKind}
use Rattle.kp_event.specs.declared.event.NodeEventKind.TheVariants as kind
use Rattle.kp_event.specs.declared.said.FedWord.{FedWord}
use Rattle.kp_event.specs.declared.said.FedWord.TheVariants as fed
use Rattle.kp_event.specs.declared.said.OutPiece.{OutPiece}
use Rattle.kp_event.specs.declared.said.Said.{Said}
use Rattle.kp_event.specs.declared.said.Said.TheVariants as says
use Rattle.kp_event.specs.declared.thought.Standing.{Standing}
use Rattle.kp_expiry.specs.declared.heard.Heard.{Heard}
use Rattle.kp_wire.specs.declared.request.Request.{Request}
use Rattle.kp_watch.specs.declared.watch.Watch.{Watch}
use Rattle.kp_conn.specs.declared.fed.FedEnd.{FedEnd}
use Rattle.kp_conn.specs.declared.fed.FedEnd.TheVariants as ends
use Rattle.kp_conn.specs.declared.phase.Phase.{Phase}
use Rattle.kp_conn.specs.declared.phase.Phase.TheVariants as phase
use Rattle.kp_conn.specs.Connection.{Connection, blank, closed, drained, out_piece, is_over, is_lost}
use Rattle.kp_step.specs.Choices.{Choices}
use Rattle.kp_step.specs.declared.seat.Seat.{Seat}
use Rattle.kp_step.specs.Node.{Node, Seats, Images, heard_at, leads}
use Rattle.kp_step.specs.Answers.{by_term}
use Rattle.kp_step.specs.Settling.{Told, stays, refused_if}
use Rattle.kp_step.specs.Handing.{Served}
use Rattle.kp_step.specs.Tables.{Table, Row, mapped, tabled, with_row, with_served, seated}
use Rattle.kp_step.specs.Applying.{upcoming}
use Rattle.kp_step.specs.Committing.{Greeting, committed, hear, hear_all, heard_behind}
use Rattle.kp_step.specs.Asking.{Words, Input, reacted, installed, asked, cut_of, fed_end, client_served, taken_by, expiries, own_image}

-- what an event makes of all but the variables of Raft, and what it answers
pub record Turn : Type 0 where
  pub node : Node
  pub said : Said
  -- the bodies that are sent to the leader
  pub forwards : List Body
  -- what each connection was answered, and which requests joined its queue
  pub told : ℕ → List Told
  pub took : ℕ → List Request

abbrev pub turn : Node → Said → Turn
turn x said = record { node = x; said = said; forwards = []; told = λ k. []; took = λ k. [] }

-- ---- connections come, go and take what is ready for them

abbrev pub accept_turn : Node → List ℕ → Turn
accept_turn x draw = turn (record x { seats = map.insert x.seats x.next (record { draw = draw; connection = blank }); next = x.next + 1 }) (says.Conn x.next)

abbrev pub hangup_turn : Node → ℕ → Turn
hangup_turn x k = turn (record x { seats = map.remove x.seats k }) (says.Hung (map.contains_key x.seats k))

abbrev pub piece_of : Connection → OutPiece
piece_of c = record { bytes = (out_piece c).bytes; over = (out_piece c).over; lost = (out_piece c).lost }

abbrev pub drained_seats : Seats → ℕ → Seat → Seats
drained_seats seats k s = if is_over s.connection.phase then map.remove seats k else map.insert seats k (seated s (drained s.connection))

abbrev pub drain_turn : Node → ℕ → Option Seat → Turn
drain_turn x k None = turn x (says.Out None)
drain_turn x k (Some s) = turn (record x { seats = drained_seats x.seats k s }) (says.Out (Some (piece_of s.connection)))

-- ---- bytes of a client

abbrev pub fed_word : FedEnd → FedWord
fed_word ends.Ok = fed.Taken
fed_word (ends.Bad at) = fed.Bad at
fed_word (ends.Word w) = fed.Taken

-- a session is among those that were heard, once
abbrev pub with_spoken : List ℕ → ℕ → List ℕ
with_spoken ids id = if list_any (λ i. i == id) ids then ids else ids ++ id ∷ []

-- the session of a live connection is heard
abbrev pub hears_client : ℕ → Phase → Node → Node
hears_client now (phase.Live s e n) x = record x { heard = hear now x.state x.heard s; spoken = with_spoken x.spoken s }
hears_client now p x = x

-- the node behind a table
abbrev pub behind : Node → Table → Node
behind x t = record x { seats = t.seats; watches = t.watches }

abbrev pub client_table : Node → ℕ → Seat → Served → Table
client_table x k s w = with_served k s w (tabled x.seats x.watches)

abbrev pub fed_turn : Node → ℕ → ℕ → Seat → FedEnd → Served → Turn
fed_turn x now k s end w = record {
  node = behind (hears_client now s.connection.phase x) (client_table x k s w);
  said = says.Fed (fed_word end);
  forwards = w.desk.forwards;
  told = (client_table x k s w).told;
  took = (client_table x k s w).took;
}

abbrev pub client_turn : Words → Choices → Node → ℕ → ℕ → List ℕ → Option Seat → Turn
client_turn words ch x now k bytes None = turn x (says.Fed fed.Unknown)
client_turn words ch x now k bytes (Some s) =
    if is_over s.connection.phase then turn x (says.Fed fed.Unknown)
    else fed_turn x now k s (fed_end s bytes) (client_served words ch x now k bytes s)

-- ---- an entry is applied

abbrev pub applied_turn : Choices → Node → ℕ → LogEntry → Outcome → Greeting → Turn
applied_turn ch x now e o g = record {
  node = behind (record x { state = o.state; heard = heard_behind now e.body o.reply o.state x.heard }) g.table;
  said = says.Done (Some o.state.applied);
  forwards = g.desk.forwards;
  told = g.table.told;
  took = g.table.took;
}

abbrev pub commit_turn : Choices → Node → ℕ → Option LogEntry → Turn
commit_turn ch x now None = turn x (says.Done None)
commit_turn ch x now (Some e) = applied_turn ch x now e (apply x.state e) (committed ch x now e)

-- ---- what a step of Raft means for the rest

-- the term rose: a connection that waits for the reply to its connect request ends, and one with requests that wait
abbrev pub risen_as : Choices → ℕ → ℕ → Connection → Phase → Row
risen_as ch zxid j d phase.Fresh k c = stays c
risen_as ch zxid j d (phase.Connecting ro) k c = stays (closed false c)
risen_as ch zxid j d (phase.Live s e n) k c = refused_if (nat_lt 0 (length c.queue)) (ch.luck k).answers zxid by_term c
risen_as ch zxid j d (phase.Closing lost) k c = stays c

abbrev pub risen : Choices → ℕ → Row
risen ch zxid k c = risen_as ch zxid k c c.phase k c

-- an image was taken: every connection ends
abbrev pub ended : Row
ended k c = if is_over c.phase then stays c else stays (closed false c)

abbrev pub with_row_if : Bool → Row → Table → Table
with_row_if b f t = if b then with_row f t else t

-- every session of the state is heard
abbrev pub all_heard : ℕ → Sessions → FinMap nat_cmp Heard
all_heard now sessions = mapped (λ id (x : Session). heard_at now id x.timeout) sessions

module _ {I : Type 0} where
  abbrev pub rose : Node → raft.Outcome I → Bool
  rose x o = nat_lt x.held.term (replay x.held o.records).term

  abbrev pub became_leader : Node → raft.Outcome I → Bool
  became_leader x o = not (leads x) && is_leader o.running.role

  -- the rows of the term come first
  unfoldable pub raft_table : Choices → Node → raft.Outcome I → Option I → Table
  raft_table ch x o image = with_row_if (is_some image) ended (with_row_if (rose x o) (risen ch x.state.applied) (tabled x.seats x.watches))

  -- the sessions that an AppendRep names, at the leader that takes it
  abbrev pub named_by : Node → raft.Outcome I → Mail I → Mail I → List ℕ
  named_by x o m (mail.AppendRep term from ok end ids) = if passes x.members x.me (last_index x.held.log) m && (is_leader o.running.role && term == (replay x.held o.records).term) then ids else []
  named_by x o m other = []

  abbrev pub named : Node → raft.Outcome I → NodeEventKind (Mail I) → List ℕ
  named x o (kind.Deliver m) = named_by x o m m
  named x o v = []

  abbrev pub is_append_rep : Mail I → Bool
  is_append_rep (mail.AppendRep term from ok last ids) = true
  is_append_rep m = false

  abbrev pub answers_append : raft.Outcome I → Bool
  answers_append o = list_any (λ (m : ℕ × Mail I). is_append_rep m.1) o.mail

  abbrev pub heard_after : Node → ℕ → NodeEventKind (Mail I) → raft.Outcome I → Option I → State → FinMap nat_cmp Heard
  heard_after x now v o image s = if is_some image || became_leader x o then all_heard now s.sessions else hear_all now s x.heard (named x o v)

  -- the committed state, or that of the image that was taken
  abbrev pub state_of : Images I → State → Option I → State
  state_of im s None = s
  state_of im s (Some image) = im.shows image

  abbrev pub raft_turn : Images I → Choices → Node → ℕ → NodeEventKind (Mail I) → raft.Outcome I → Option I → Turn
  raft_turn im ch x now v o image = record {
    node = behind (record x {
      state = state_of im x.state image;
      heard = heard_after x now v o image (state_of im x.state image);
      spoken = if answers_append o then [] else x.spoken;
    }) (raft_table ch x o image);
    said = says.Raft;
    forwards = [];
    told = (raft_table ch x o image).told;
    took = (raft_table ch x o image).took;
  }

  -- ---- by the kind of the event, once Raft has done what it was asked

  unfoldable pub turned : Words → Images I → Choices → Node → ℕ → raft.Outcome I → Option I → NodeEventKind (Mail I) → Turn
  turned words im ch x now o image (kind.Accept draw) = accept_turn x draw
  turned words im ch x now o image (kind.Client k bytes) = client_turn words ch x now k bytes (map.get x.seats k)
  turned words im ch x now o image (kind.Hangup k) = hangup_turn x k
  turned words im ch x now o image (kind.Drain k) = drain_turn x k (map.get x.seats k)
  turned words im ch x now o image (kind.Deliver m) = raft_turn im ch x now (kind.Deliver m) o image
  turned words im ch x now o image kind.Timeout = raft_turn im ch x now kind.Timeout o image
  turned words im ch x now o image kind.Beat = turn x (says.Beat (length o.mail))
  turned words im ch x now o image kind.CommitOne = commit_turn ch x now (upcoming x)
  turned words im ch x now o image kind.ExpireDue = turn x (says.Expired (length (taken_by x now (expiries x now))))
  turned words im ch x now o image kind.Snapshot = turn x (says.Snapped (replay x.held o.records).log.base)

-- ---- what goes out

-- a connection that is gone or was given up has no watches
abbrev pub keeps_watches : Option Seat → Bool
keeps_watches None = false
keeps_watches (Some s) = not (is_lost s.connection.phase)

abbrev pub swept : Seats → List Watch → List Watch
swept seats ws = filter (λ (w : Watch). keeps_watches (map.get seats w.conn)) ws

-- how many connections were given up
abbrev pub count_lost : Seats → ℕ
count_lost seats = length (filter (λ (s : Seat). is_lost s.connection.phase) (map.values seats))

-- whether something is ready for a connection: packets, or that it is over
abbrev pub has_out : List (List ℕ) → Bool
has_out [] = false
has_out (p ∷ ps) = true

abbrev pub is_ready : Option Seat → Bool
is_ready None = false
is_ready (Some s) = is_over s.connection.phase || has_out s.connection.outbox

-- the connections, ascending, for which something is ready that was not
abbrev pub newly_ready : Seats → Seats → List ℕ
newly_ready old new = filter (λ k. is_ready (map.get new k) && not (is_ready (map.get old k))) (map.keys new)

-- whether the last record is a base
abbrev pub is_base : Record → Bool
is_base (record_.Base index term) = true
is_base r = false

abbrev pub ends_from : Bool → List Record → Bool
ends_from b [] = b
ends_from b (r ∷ rs) = ends_from (is_base r) rs

abbrev pub ends_in_base : List Record → Bool
ends_in_base rs = ends_from false rs

module _ {I : Type 0} where
  -- an AppendRep names the sessions that were heard
  abbrev pub heard_filled : List ℕ → Mail I → Mail I
  heard_filled ids (mail.AppendRep term from ok last none) = mail.AppendRep term from ok last ids
  heard_filled ids m = m

  abbrev pub filled : List ℕ → ℕ × Mail I → ℕ × Mail I
  filled ids m = (m.0, heard_filled ids m.1)

  abbrev pub forwarded : Node → Body → ℕ × Mail I
  forwarded x b = (x.running.leader, mail.Forward x.held.term x.me b)

  -- the messages of Raft, and then the bodies that are sent to the leader
  abbrev pub mail_of : Node → List (ℕ × Mail I) → List Body → List (ℕ × Mail I)
  mail_of x ms bodies = map (filled x.spoken) ms ++ map (forwarded x) bodies

  -- the image that a base stands for: the one that was taken, or the own
  abbrev pub base_image : Images I → Node → List Record → Option I → Option I
  base_image im x rs (Some image) = Some image
  base_image im x rs None = if ends_in_base rs then Some (own_image im x) else None

  -- the entry that an event applies
  abbrev pub applies : Node → NodeEventKind (Mail I) → Option LogEntry
  applies x kind.CommitOne = upcoming x
  applies x v = None

-- what a step gives
pub record Stepped (I : Type 0) : Type 0 where
  pub node : Node
  pub said : Said
  pub records : List Record
  -- the image of a base that is the last record
  pub image : Option I
  pub mail : List (ℕ × Mail I)
  -- how many entries of an append were taken, where it had more
  pub cut : Option ℕ
  -- how many connections were given up
  pub lost : ℕ
  pub standing : Standing
  pub ready : List ℕ
  -- the image that was taken, and the entry that was applied
  pub installed : Option I
  pub applied : Option LogEntry
  pub told : ℕ → List Told
  pub took : ℕ → List Request

abbrev pub standing_of : Node → Standing
standing_of y = record { leader = leads y; last = last_index y.held.log; commit = y.running.commit }

module _ {I : Type 0} where
  -- the node with the variables that Raft left, and without the watches of connections that went
  abbrev pub node_behind : Node → raft.Outcome I → Node → Node
  node_behind x o y = record y { held = replay x.held o.records; running = o.running; watches = swept y.seats y.watches }

  -- what the event and Raft made, put together
  unfoldable pub together : Images I → Choices → Node → NodeEventKind (Mail I) → raft.Outcome I → Option I → Turn → Stepped I
  together im ch x v o image t = record {
    node = node_behind x o t.node;
    said = t.said;
    records = o.records;
    image = base_image im x o.records image;
    mail = mail_of x o.mail t.forwards;
    cut = cut_of ch.room x v;
    lost = count_lost t.node.seats - count_lost x.seats;
    standing = standing_of (node_behind x o t.node);
    ready = newly_ready x.seats t.node.seats;
    installed = image;
    applied = applies x v;
    told = t.told;
    took = t.took;
  }

  abbrev pub step_with : Words → Images I → Choices → Node → NodeEvent (Mail I) → Input I → Stepped I
  step_with words im ch x v input = together im ch x v.kind (reacted x input) (installed x input) (turned words im ch x v.now (reacted x input) (installed x input) v.kind)

  -- the step: what Raft is asked is found first, and all else from what Raft made of it
  unfoldable pub step : Words → Images I → Choices → Node → NodeEvent (Mail I) → Stepped I
  step words im ch x v = step_with words im ch x v (asked words im ch x v.now v.kind)
