-- What a worker asks of its node, in tasks, and what may leave of it (this project's own).
use Rattle.std.specs.Prelude.{◌≡◌, ℕ, List, [], ◌∷◌, ◌++◌, Bool, true, false, Option, Some, None, Ok, Err, ⊤, IsTrue}
use Rattle.kp_event.specs.declared.event.NodeEventKind.{NodeEventKind}
use Rattle.kp_event.specs.declared.thought.Thought.{Thought}
use Rattle.kp_event.specs.declared.said.Said.{Said}
use Rattle.kp_event.specs.declared.said.Said.TheVariants as said
use Rattle.kp_event.specs.declared.said.FedWord.TheVariants as word
use Rattle.kp_event.specs.Kinds.{row_of_kind, row_of_said}
use Rattle.kp_shared.specs.Letters.{Letter}
use Rattle.kp_shared.specs.declared.task.Task.{Task}
use Rattle.kp_shared.specs.declared.task.Task.TheVariants as task
use Rattle.kp_shared.specs.declared.task.Answer.TheVariants as answer
use Rattle.kp_shared.specs.TaskSteps.{Answered}

-- it holds of each
abbrev pub Each : {B : Type 0} → (B → Type 0) → List B → Type 0
Each P [] = ⊤
Each P (x ∷ xs) = P x × Each P xs

-- a task and its answer
abbrev pub Did : Type 0 → Type 0
Did M = Task M × Answered M

-- the kind of the event that is thought, or None for a flush
abbrev pub kind_of : {M : Type 0} → Task M → Option (NodeEventKind M)
kind_of (task.Think e) = Some e.kind
kind_of task.Flush = None

-- an event of this kind was to be thought
abbrev pub IsThink : {M : Type 0} → NodeEventKind M → Did M → Type 0
IsThink k d = kind_of d.0 ≡ Some k

-- the event's time is one that the clock may answer
abbrev pub InTime : {M : Type 0} → (ℕ → Type 0) → Did M → Type 0
InTime may (task.Think e, a) = may e.now
InTime may (task.Flush, a) = ⊤

-- the task was not refused
abbrev pub Went : {M : Type 0} → Did M → Type 0
Went (t, Ok a) = ⊤
Went (t, Err f) = ⊥

-- a thought says what belongs to its event
abbrev pub Fitting : {M : Type 0} → Did M → Type 0
Fitting (task.Think e, Ok (answer.Thought t)) = row_of_said t.said ≡ row_of_kind e.kind
Fitting (task.Think e, Ok (answer.Kept n)) = ⊤
Fitting (task.Think e, Err f) = ⊤
Fitting (task.Flush, a) = ⊤

-- no further entry was there to apply
abbrev pub is_none_left : Said → Bool
is_none_left (said.Done None) = true
is_none_left (said.Done (Some n)) = false
is_none_left (said.Conn n) = false
is_none_left (said.Fed f) = false
is_none_left (said.Hung b) = false
is_none_left (said.Out p) = false
is_none_left said.Raft = false
is_none_left (said.Beat n) = false
is_none_left (said.Expired n) = false
is_none_left (said.Snapped n) = false

-- the task found no further entry to apply
abbrev pub finds_none : {M : Type 0} → Did M → Bool
finds_none (t, Ok (answer.Thought u)) = is_none_left u.said
finds_none (t, Ok (answer.Kept n)) = false
finds_none (t, Err f) = false

-- the thoughts among the answers
abbrev pub thoughts_in : {M : Type 0} → List (Did M) → List (Thought (Letter M))
thoughts_in [] = []
thoughts_in ((t, Ok (answer.Thought u)) ∷ ds) = u ∷ thoughts_in ds
thoughts_in ((t, Ok (answer.Kept n)) ∷ ds) = thoughts_in ds
thoughts_in ((t, Err f) ∷ ds) = thoughts_in ds

-- the thoughts that wait for a flush, after one more answer
abbrev pub waits_after : {M : Type 0} → List (Thought (Letter M)) → Answered M → List (Thought (Letter M))
waits_after p (Ok (answer.Thought t)) = p ++ t ∷ []
waits_after p (Ok (answer.Kept n)) = []
waits_after p (Err f) = []

-- the thoughts that one answer lets leave
abbrev pub leaves_at : {M : Type 0} → List (Thought (Letter M)) → Answered M → List (Thought (Letter M))
leaves_at p (Ok (answer.Thought t)) = []
leaves_at p (Ok (answer.Kept n)) = p
leaves_at p (Err f) = []

-- the thoughts that still wait, where some waited before
abbrev pub waiting : {M : Type 0} → List (Thought (Letter M)) → List (Did M) → List (Thought (Letter M))
waiting p [] = p
waiting p (d ∷ ds) = waiting (waits_after p d.1) ds

-- the thoughts whose next flush was Ok, where some waited before: these may leave
abbrev pub flushed : {M : Type 0} → List (Thought (Letter M)) → List (Did M) → List (Thought (Letter M))
flushed p [] = []
flushed p (d ∷ ds) = leaves_at p d.1 ++ flushed (waits_after p d.1) ds

-- the messages of all of them
abbrev pub mails_of : {M : Type 0} → List (Thought (Letter M)) → List (Letter M)
mails_of [] = []
mails_of (t ∷ ts) = t.mail ++ mails_of ts

-- what was drained
abbrev pub out_of : Said → List ℕ
out_of (said.Out (Some p)) = p.bytes
out_of (said.Out None) = []
out_of (said.Conn n) = []
out_of (said.Fed f) = []
out_of (said.Hung b) = []
out_of said.Raft = []
out_of (said.Beat n) = []
out_of (said.Done n) = []
out_of (said.Expired n) = []
out_of (said.Snapped n) = []

-- what all of them drained, joined
abbrev pub bytes_of : {M : Type 0} → List (Thought (Letter M)) → List ℕ
bytes_of [] = []
bytes_of (t ∷ ts) = out_of t.said ++ bytes_of ts

-- a drain said that the connection is over and not lost, or that there is none
abbrev pub IsOver : Said → Type 0
IsOver (said.Out (Some p)) = IsTrue p.over × (p.lost ≡ false)
IsOver (said.Out None) = ⊤
IsOver (said.Conn n) = ⊥
IsOver (said.Fed f) = ⊥
IsOver (said.Hung b) = ⊥
IsOver said.Raft = ⊥
IsOver (said.Beat n) = ⊥
IsOver (said.Done n) = ⊥
IsOver (said.Expired n) = ⊥
IsOver (said.Snapped n) = ⊥

-- the place of a frame outside the grammar
abbrev pub bad_of : Said → Option ℕ
bad_of (said.Fed (word.Bad at)) = Some at
bad_of (said.Fed word.Taken) = None
bad_of (said.Fed word.Unknown) = None
bad_of (said.Out p) = None
bad_of (said.Conn n) = None
bad_of (said.Hung b) = None
bad_of said.Raft = None
bad_of (said.Beat n) = None
bad_of (said.Done n) = None
bad_of (said.Expired n) = None
bad_of (said.Snapped n) = None
