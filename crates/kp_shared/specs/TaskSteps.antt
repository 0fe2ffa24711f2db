-- The steps of a running node: what a Think and a Flush do to it (this project's own).
use Rattle.std.specs.Prelude.{◌≡◌, ◌+◌, ℕ, Some, None, Result, Ok, Err}
use Rattle.kp_io.specs.Faults.{Rose}
use Rattle.kp_event.specs.declared.event.NodeEvent.{NodeEvent}
use Rattle.kp_event.specs.declared.thought.Thought.{Thought}
use Rattle.kp_event.specs.declared.fail.KeptFail.{KeptFail}
use Rattle.kp_event.specs.declared.fail.KeptFail.TheVariants as fail
use Rattle.kp_event.specs.declared.fail.Why.TheVariants as why
use Rattle.kp_event.specs.Kinds.{row_of_kind, row_of_said}
use Rattle.kp_shared.specs.Letters.{Letter}
use Rattle.kp_shared.specs.declared.kept.Life.{Life}
use Rattle.kp_shared.specs.declared.task.Task.{Task}
use Rattle.kp_shared.specs.declared.task.Task.TheVariants as task
use Rattle.kp_shared.specs.declared.task.Answer.{Answer}
use Rattle.kp_shared.specs.declared.task.Answer.TheVariants as answer

-- what a task is answered
abbrev pub Answered : Type 0 → Type 0
Answered M = Result (Answer M) KeptFail

-- no disk fault and no full disk ended the node, and no event of it was torn
abbrev pub IsAlive : Life → Type 0
IsAlive l = l.death ≡ None

module _ {K M : Type 0} (moves : K → NodeEvent M → Thought (Letter M) → K → Type 0) (stays : K → K → Type 0) (life : K → Life) where
  -- A think is one step of the node, which is numbered, and says what belongs to the event; or it changes nothing.
  abbrev pub Thinks : K → NodeEvent M → Result (Thought (Letter M)) KeptFail → K → Type 0
  Thinks x e (Ok t) y = IsAlive (life x) × moves x e t y × (row_of_said t.said ≡ row_of_kind e.kind) × (t.number ≡ (life x).thought + 1)
      × (life y ≡ record (life x) { thought = (life x).thought + 1 })
  Thinks x e (Err fail.NoMemory) y = IsAlive (life x) × stays x y × (life y ≡ life x)
  Thinks x e (Err (fail.Dead w)) y = ((life x).death ≡ Some w) × stays x y × (life y ≡ life x)
  Thinks x e (Err fail.DiskFault) y = ⊥
  Thinks x e (Err (fail.Full s n)) y = ⊥

module _ {K : Type 0} (stays keeps : K → K → Type 0) (life : K → Life) where
  -- A flush leaves the node as it is and keeps all that was thought; or it ends the node; or it changes nothing.
  abbrev pub Flushes : K → Result ℕ KeptFail → K → Type 0
  Flushes x (Ok n) y = IsAlive (life x) × stays x y × keeps x y × (n ≡ (life x).thought) × (life y ≡ record (life x) { kept = (life x).thought })
  Flushes x (Err fail.NoMemory) y = IsAlive (life x) × stays x y × (life y ≡ life x)
  Flushes x (Err fail.DiskFault) y = IsAlive (life x) × stays x y × Rose (life x).faults (life y).faults
      × (life y ≡ record (life x) { death = Some (why.Disk (life y).faults); faults = (life y).faults })
  Flushes x (Err (fail.Full s n)) y = IsAlive (life x) × stays x y × (life y ≡ record (life x) { death = Some (why.Full s n) })
  Flushes x (Err (fail.Dead w)) y = ((life x).death ≡ Some w) × stays x y × (life y ≡ life x)

module _ {K M : Type 0} (moves : K → NodeEvent M → Thought (Letter M) → K → Type 0) (stays keeps : K → K → Type 0) (life : K → Life) where
  -- one task and its answer
  abbrev pub IsTaskStep : K → Task M → Answered M → K → Type 0
  IsTaskStep x (task.Think e) (Ok (answer.Thought t)) y = Thinks moves stays life x e (Ok t) y
  IsTaskStep x (task.Think e) (Ok (answer.Kept n)) y = ⊥
  IsTaskStep x (task.Think e) (Err f) y = Thinks moves stays life x e (Err f) y
  IsTaskStep x task.Flush (Ok (answer.Thought t)) y = ⊥
  IsTaskStep x task.Flush (Ok (answer.Kept n)) y = Flushes stays keeps life x (Ok n) y
  IsTaskStep x task.Flush (Err f) y = Flushes stays keeps life x (Err f) y
