-- What the steps of a running node make of every history.
use Rattle.std.specs.Prelude.{◌≡◌, ◌≤◌, ℕ, List, [], ◌∷◌, Option, Some, None, Ok, Err, ⊤}
use Rattle.kp_turn.specs.History.{Runs}
use Rattle.kp_shared.specs.declared.kept.Life.{Life}
use Rattle.kp_event.specs.declared.event.NodeEvent.{NodeEvent}
use Rattle.kp_event.specs.declared.thought.Thought.{Thought}
use Rattle.kp_shared.specs.declared.task.Task.{Task}
use Rattle.kp_shared.specs.declared.task.Answer.TheVariants as answer
use Rattle.kp_event.specs.declared.fail.KeptFail.TheVariants as fail
use Rattle.kp_event.specs.declared.fail.Why.{Why}
use Rattle.kp_event.specs.declared.fail.Why.TheVariants as why
use Rattle.kp_shared.specs.Letters.{Letter}
use Rattle.kp_shared.specs.TaskSteps.{Answered, IsTaskStep}

-- a dead node answers Dead with the cause of its death, and no other node answers Dead
abbrev pub Fits : {M : Type 0} → Option Why → Answered M → Type 0
Fits (Some w) a = a ≡ Err (fail.Dead w)
Fits None (Ok a) = ⊤
Fits None (Err fail.NoMemory) = ⊤
Fits None (Err fail.DiskFault) = ⊤
Fits None (Err (fail.Full s k)) = ⊤
Fits None (Err (fail.Dead w)) = ⊥

-- the cause of death after an answer, where n is the count of faults then
abbrev pub death_after : {M : Type 0} → Option Why → Answered M → ℕ → Option Why
death_after (Some w) a n = Some w
death_after None (Ok a) n = None
death_after None (Err fail.NoMemory) n = None
death_after None (Err fail.DiskFault) n = Some (why.Disk n)
death_after None (Err (fail.Full s k)) n = Some (why.Full s k)
death_after None (Err (fail.Dead w)) n = None

-- a flush that went keeps at least the thought m
abbrev pub Keeps : {M : Type 0} → ℕ → Answered M → Type 0
Keeps m (Ok (answer.Kept n)) = m ≤ n
Keeps m (Ok (answer.Thought t)) = ⊤
Keeps m (Err f) = ⊤

-- the number of the last thought, after an answer
abbrev pub last_thought : {M : Type 0} → ℕ → Answered M → ℕ
last_thought m (Ok (answer.Kept n)) = m
last_thought m (Ok (answer.Thought t)) = t.number
last_thought m (Err f) = m

module _ {K M : Type 0} (life : K → Life) where
  -- from the first pair that is answered DiskFault or Full on, each pair is answered Dead with its cause, and no other pair is
  abbrev pub DiesOnce : Option Why → List (Task M × Answered M × K) → Type 0
  DiesOnce d [] = ⊤
  DiesOnce d (p ∷ ps) = Fits d p.1 × DiesOnce (death_after d p.1 (life p.2).faults) ps

-- each flush that went keeps all thoughts before it
abbrev pub KeepsAll : {K M : Type 0} → ℕ → List (Task M × Answered M × K) → Type 0
KeepsAll m [] = ⊤
KeepsAll m (p ∷ ps) = Keeps m p.1 × KeepsAll (last_thought m p.1) ps

module _ {K M : Type 0} (moves : K → NodeEvent M → Thought (Letter M) → K → Type 0) (stays keeps : K → K → Type 0) (life : K → Life) where
  -- it holds of every history of a node's tasks, from any node on
  abbrev pub Histories : (K → List (Task M × Answered M × K) → Type 0) → Type 0
  Histories P = (x : K) (ts : List (Task M × Answered M × K)) → Runs (IsTaskStep moves stays keeps life) x ts → P x ts
