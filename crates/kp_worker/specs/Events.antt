-- Which events the outside of a node asks for (this project's own).
use Rattle.std.specs.Prelude.{◌≡◌, ℕ, true, List, [], ◌∷◌, ⊤}
use Rattle.kp_event.specs.declared.event.NodeEventKind.{NodeEventKind}
use Rattle.kp_event.specs.declared.event.NodeEventKind.TheVariants as kind
use Rattle.kp_shared.specs.declared.task.Task.{Task}
use Rattle.kp_shared.specs.declared.task.Task.TheVariants as task
use Rattle.kp_shared.specs.Tasks.{Did}
use Rattle.kp_worker.specs.declared.heard.Heard.{Heard}
use Rattle.kp_worker.specs.declared.heard.Heard.TheVariants as heard
use Rattle.kp_worker.specs.declared.heard.LineState.{LineState}
use Rattle.kp_worker.specs.declared.heard.LineState.TheVariants as line
use Rattle.kp_worker.specs.Lists.{joined}
use Rattle.kp_worker.specs.Outside.{is_there, shut}

-- the events that tasks are to think
abbrev pub kind_in : {M : Type 0} → Task M → List (NodeEventKind M)
kind_in (task.Think e) = e.kind ∷ []
kind_in task.Flush = []

abbrev pub kinds : {M : Type 0} → List (Did M) → List (NodeEventKind M)
kinds ds = joined (λ d. kind_in d.0) ds

-- a Client or a Hangup, and no other event
abbrev pub fed_in : {M : Type 0} → NodeEventKind M → List (NodeEventKind M)
fed_in (kind.Client c b) = kind.Client c b ∷ []
fed_in (kind.Hangup c) = kind.Hangup c ∷ []
fed_in (kind.Drain c) = []
fed_in (kind.Accept d) = []
fed_in (kind.Deliver m) = []
fed_in kind.Timeout = []
fed_in kind.Beat = []
fed_in kind.CommitOne = []
fed_in kind.ExpireDue = []
fed_in kind.Snapshot = []

abbrev pub fed : {M : Type 0} → List (NodeEventKind M) → List (NodeEventKind M)
fed ks = joined fed_in ks

-- what an answer of a stream asks for: a Client for a piece, a Hangup at its end or its fault
abbrev pub asked_by : {M : Type 0} → ℕ → Heard → List (NodeEventKind M)
asked_by c (heard.Bytes b) = kind.Client c b ∷ []
asked_by c heard.Later = []
asked_by c heard.End = kind.Hangup c ∷ []
asked_by c heard.Fault = kind.Hangup c ∷ []

abbrev pub asked : {M : Type 0} → List (ℕ × Heard) → List (NodeEventKind M)
asked as0 = joined (λ a. asked_by a.0 a.1) as0

-- the message that is delivered
abbrev pub mail_in : {M : Type 0} → NodeEventKind M → List M
mail_in (kind.Deliver m) = m ∷ []
mail_in (kind.Client c b) = []
mail_in (kind.Hangup c) = []
mail_in (kind.Drain c) = []
mail_in (kind.Accept d) = []
mail_in kind.Timeout = []
mail_in kind.Beat = []
mail_in kind.CommitOne = []
mail_in kind.ExpireDue = []
mail_in kind.Snapshot = []

abbrev pub delivered : {M : Type 0} → List (NodeEventKind M) → List M
delivered ks = joined mail_in ks

-- messages without the node that each came from
abbrev pub mail_alone : {M : Type 0} → List (ℕ × M) → List M
mail_alone ms = joined (λ m. m.1 ∷ []) ms

-- the draw with which a connection is accepted
abbrev pub draw_in : {M : Type 0} → NodeEventKind M → List (List ℕ)
draw_in (kind.Accept d) = d ∷ []
draw_in (kind.Deliver m) = []
draw_in (kind.Client c b) = []
draw_in (kind.Hangup c) = []
draw_in (kind.Drain c) = []
draw_in kind.Timeout = []
draw_in kind.Beat = []
draw_in kind.CommitOne = []
draw_in kind.ExpireDue = []
draw_in kind.Snapshot = []

abbrev pub draws : {M : Type 0} → List (NodeEventKind M) → List (List ℕ)
draws ks = joined draw_in ks

-- the connection that is drained
abbrev pub drain_in : {M : Type 0} → NodeEventKind M → List ℕ
drain_in (kind.Drain c) = c ∷ []
drain_in (kind.Accept d) = []
drain_in (kind.Deliver m) = []
drain_in (kind.Client c b) = []
drain_in (kind.Hangup c) = []
drain_in kind.Timeout = []
drain_in kind.Beat = []
drain_in kind.CommitOne = []
drain_in kind.ExpireDue = []
drain_in kind.Snapshot = []

abbrev pub drains : {M : Type 0} → List (NodeEventKind M) → List ℕ
drains ks = joined drain_in ks

-- a Client of a connection comes only while it is open, a Hangup and a Drain only while the node has it
abbrev pub Allowed : {M : Type 0} → ℕ → LineState → NodeEventKind M → Type 0
Allowed c s (kind.Client n b) = n ≡ c → s ≡ line.Open
Allowed c s (kind.Hangup n) = n ≡ c → is_there s ≡ true
Allowed c s (kind.Drain n) = n ≡ c → is_there s ≡ true
Allowed c s (kind.Accept d) = ⊤
Allowed c s (kind.Deliver m) = ⊤
Allowed c s kind.Timeout = ⊤
Allowed c s kind.Beat = ⊤
Allowed c s kind.CommitOne = ⊤
Allowed c s kind.ExpireDue = ⊤
Allowed c s kind.Snapshot = ⊤

-- the state of a connection after an event: a Hangup closes its own
abbrev pub after_kind : {M : Type 0} → ℕ → LineState → NodeEventKind M → LineState
after_kind c s (kind.Hangup n) = shut c s n
after_kind c s (kind.Client n b) = s
after_kind c s (kind.Drain n) = s
after_kind c s (kind.Accept d) = s
after_kind c s (kind.Deliver m) = s
after_kind c s kind.Timeout = s
after_kind c s kind.Beat = s
after_kind c s kind.CommitOne = s
after_kind c s kind.ExpireDue = s
after_kind c s kind.Snapshot = s

-- each event of a connection comes while it may, and this is its state after them
abbrev pub Passes : {M : Type 0} → ℕ → LineState → List (NodeEventKind M) → LineState → Type 0
Passes c s [] e = e ≡ s
Passes c s (k ∷ ks) e = Allowed c s k × Passes c (after_kind c s k) ks e

-- an event that nobody outside asks for, and that is about no connection
abbrev pub IsOwn : {M : Type 0} → NodeEventKind M → Type 0
IsOwn kind.Timeout = ⊤
IsOwn kind.Beat = ⊤
IsOwn kind.CommitOne = ⊤
IsOwn kind.ExpireDue = ⊤
IsOwn kind.Snapshot = ⊤
IsOwn (kind.Accept d) = ⊥
IsOwn (kind.Deliver m) = ⊥
IsOwn (kind.Client c b) = ⊥
IsOwn (kind.Hangup c) = ⊥
IsOwn (kind.Drain c) = ⊥
