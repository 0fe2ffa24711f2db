-- What a thought of a turn lets leave, and what it makes of its connection (this project's own).
use Rattle.std.specs.Prelude.{◌+◌, ℕ, Bool, true, false, ◌||◌, List, [], ◌∷◌, Option, Some, None, Ok, Err}
use Rattle.kp_event.specs.declared.event.NodeEventKind.{NodeEventKind}
use Rattle.kp_event.specs.declared.event.NodeEventKind.TheVariants as kind
use Rattle.kp_event.specs.declared.thought.Thought.{Thought}
use Rattle.kp_event.specs.declared.said.Said.{Said}
use Rattle.kp_event.specs.declared.said.Said.TheVariants as said
use Rattle.kp_event.specs.declared.said.FedWord.TheVariants as word
use Rattle.kp_shared.specs.Letters.{Letter}
use Rattle.kp_shared.specs.declared.task.Task.TheVariants as task
use Rattle.kp_shared.specs.declared.task.Answer.TheVariants as answer
use Rattle.kp_shared.specs.Tasks.{Did, is_none_left, out_of}
use Rattle.kp_worker.specs.declared.heard.LineState.{LineState}
use Rattle.kp_worker.specs.declared.note.Mark.{Mark}
use Rattle.kp_worker.specs.declared.note.Mark.TheVariants as mark
use Rattle.kp_worker.specs.declared.note.Note.{Note}
use Rattle.kp_worker.specs.Lists.{joined}
use Rattle.kp_worker.specs.Outside.{ended, opened}

-- the connection that gave the bytes of an event, or that it drains
abbrev pub mark_of : {M : Type 0} → NodeEventKind M → Mark
mark_of (kind.Client c b) = mark.Fed c
mark_of (kind.Drain c) = mark.Drained c
mark_of (kind.Accept d) = mark.Other
mark_of (kind.Hangup c) = mark.Other
mark_of (kind.Deliver m) = mark.Other
mark_of kind.Timeout = mark.Other
mark_of kind.Beat = mark.Other
mark_of kind.CommitOne = mark.Other
mark_of kind.ExpireDue = mark.Other
mark_of kind.Snapshot = mark.Other

-- the connection that is drained
abbrev pub drained_by : Mark → List ℕ
drained_by (mark.Drained c) = c ∷ []
drained_by (mark.Fed c) = []
drained_by mark.Other = []

-- the connections that are drained
abbrev pub all_drained : {M : Type 0} → List (Note M) → List ℕ
all_drained ns = joined (λ n. drained_by n.mark) ns

-- a task as a note: its connection and its thought, or none where it was refused
abbrev pub note_at : {M : Type 0} → Did M → List (Note M)
note_at (task.Think e, Ok (answer.Thought t)) = record { mark = mark_of e.kind; thought = Some t } ∷ []
note_at (task.Think e, Ok (answer.Kept n)) = []
note_at (task.Think e, Err f) = record { mark = mark_of e.kind; thought = None } ∷ []
note_at (task.Flush, a) = []

abbrev pub notes : {M : Type 0} → List (Did M) → List (Note M)
notes ds = joined note_at ds

-- its messages
abbrev pub mail_of : {M : Type 0} → Option (Thought (Letter M)) → List (Letter M)
mail_of None = []
mail_of (Some t) = t.mail

abbrev pub mails : {M : Type 0} → List (Note M) → List (Letter M)
mails ns = joined (λ n. mail_of n.thought) ns

-- the bytes that it drained, with their connection
abbrev pub drained_at : Mark → Said → List (ℕ × List ℕ)
drained_at (mark.Drained c) s = (c, out_of s) ∷ []
drained_at (mark.Fed c) s = []
drained_at mark.Other s = []

abbrev pub piece_of : {M : Type 0} → Mark → Option (Thought (Letter M)) → List (ℕ × List ℕ)
piece_of m None = []
piece_of m (Some t) = drained_at m t.said

abbrev pub pieces : {M : Type 0} → List (Note M) → List (ℕ × List ℕ)
pieces ns = joined (λ n. piece_of n.mark n.thought) ns

-- the connection that it opened
abbrev pub opened_by : Said → Option ℕ
opened_by (said.Conn n) = Some n
opened_by (said.Fed f) = None
opened_by (said.Hung b) = None
opened_by (said.Out p) = None
opened_by said.Raft = None
opened_by (said.Beat n) = None
opened_by (said.Done n) = None
opened_by (said.Expired n) = None
opened_by (said.Snapped n) = None

abbrev pub opening : {M : Type 0} → Option (Thought (Letter M)) → Option ℕ
opening None = None
opening (Some t) = opened_by t.said

-- a frame was outside the grammar
abbrev pub is_bad : Said → Bool
is_bad (said.Fed (word.Bad at)) = true
is_bad (said.Fed word.Taken) = false
is_bad (said.Fed word.Unknown) = false
is_bad (said.Conn n) = false
is_bad (said.Hung b) = false
is_bad (said.Out p) = false
is_bad said.Raft = false
is_bad (said.Beat n) = false
is_bad (said.Done n) = false
is_bad (said.Expired n) = false
is_bad (said.Snapped n) = false

-- a drain found the connection over, given up, or gone
abbrev pub is_last : Said → Bool
is_last (said.Out (Some p)) = p.over || p.lost
is_last (said.Out None) = true
is_last (said.Fed f) = false
is_last (said.Conn n) = false
is_last (said.Hung b) = false
is_last said.Raft = false
is_last (said.Beat n) = false
is_last (said.Done n) = false
is_last (said.Expired n) = false
is_last (said.Snapped n) = false

abbrev pub where_so : Bool → ℕ → Option ℕ
where_so true c = Some c
where_so false c = None

-- the connection that a thought ends: its frame was bad, or it is over
abbrev pub ends_at : Mark → Said → Option ℕ
ends_at (mark.Fed c) s = where_so (is_bad s) c
ends_at (mark.Drained c) s = where_so (is_last s) c
ends_at mark.Other s = None

-- the connection that ends since the node had no memory for its event
abbrev pub starves : Mark → Option ℕ
starves (mark.Fed c) = Some c
starves (mark.Drained c) = Some c
starves mark.Other = None

-- the connection that it ends
abbrev pub ending : {M : Type 0} → Mark → Option (Thought (Letter M)) → Option ℕ
ending m None = starves m
ending m (Some t) = ends_at m t.said

abbrev pub opens : ℕ → LineState → Option ℕ → LineState
opens c s None = s
opens c s (Some n) = opened c s n

abbrev pub ends : ℕ → LineState → Option ℕ → LineState
ends c s None = s
ends c s (Some n) = ended c s n

-- the state of a connection after these thoughts opened and ended theirs
abbrev pub after_note : {M : Type 0} → ℕ → LineState → Note M → LineState
after_note c s n = ends c (opens c s (opening n.thought)) (ending n.mark n.thought)

abbrev pub reached : {M : Type 0} → ℕ → LineState → List (Note M) → LineState
reached c s [] = s
reached c s (n ∷ ns) = reached c (after_note c s n) ns

-- how many connections were opened
abbrev pub one_where : Option ℕ → ℕ
one_where None = 0
one_where (Some n) = 1

abbrev pub openings : {M : Type 0} → List (Note M) → ℕ
openings [] = 0
openings (n ∷ ns) = one_where (opening n.thought) + openings ns

-- no commit comes behind it: it found no further entry, or was refused
abbrev pub is_end : {M : Type 0} → Option (Thought (Letter M)) → Bool
is_end None = true
is_end (Some t) = is_none_left t.said
