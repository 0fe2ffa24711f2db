-- A running node dies of its disk alone.
use Rattle.std.proofs.Common.{◌≡◌, List, [], ◌∷◌, sym, ap, subst}
use Rattle.std.specs.Prelude.{Option, Some, None, Ok, Err, ⊤}
use Rattle.kp_turn.specs.History.{Runs, value_after}
use Rattle.kp_event.specs.declared.event.NodeEvent.{NodeEvent}
use Rattle.kp_event.specs.declared.thought.Thought.{Thought}
use Rattle.kp_event.specs.declared.fail.KeptFail.{KeptFail}
use Rattle.kp_event.specs.declared.fail.KeptFail.TheVariants as fail
use Rattle.kp_event.specs.declared.fail.Why.{Why}
use Rattle.kp_event.specs.declared.fail.Why.TheVariants as why
use Rattle.kp_shared.specs.Letters.{Letter}
use Rattle.kp_shared.specs.declared.kept.Life.{Life}
use Rattle.kp_shared.specs.declared.task.Task.{Task}
use Rattle.kp_shared.specs.declared.task.Task.TheVariants as task
use Rattle.kp_shared.specs.declared.task.Answer.TheVariants as answer
use Rattle.kp_shared.specs.TaskSteps.{Answered, IsAlive, IsTaskStep}
use Rattle.kp_shared.specs.Ends.{IsUntorn}

-- the node died of no torn event
abbrev IsWhole : Option Why → Type 0
IsWhole None = ⊤
IsWhole (Some (why.Disk n)) = ⊤
IsWhole (Some (why.Full s n)) = ⊤
IsWhole (Some why.Torn) = ⊥

module _ {S K M : Type 0} (kept : S → K) (moves : K → NodeEvent M → Thought (Letter M) → K → Type 0) (stays keeps : K → K → Type 0) (life : K → Life) where
  abbrev OneStep : S → Task M → Answered M → S → Type 0
  OneStep x t a y = IsTaskStep moves stays keeps life (kept x) t a (kept y)

  -- one task keeps that
  whole_step : (x : K) (t : Task M) (a : Answered M) (y : K) → IsTaskStep moves stays keeps life x t a y → IsWhole (life x).death → IsWhole (life y).death
  whole_step x (task.Think e) (Ok (answer.Thought t)) y s u = subst IsWhole (sym (ap (λ (l : Life). l.death) s.4)) u
  whole_step x (task.Think e) (Ok (answer.Kept n)) y s u = absurd s
  whole_step x (task.Think e) (Err fail.NoMemory) y s u = subst IsWhole (sym (ap (λ (l : Life). l.death) s.2)) u
  whole_step x (task.Think e) (Err (fail.Dead w)) y s u = subst IsWhole (sym (ap (λ (l : Life). l.death) s.2)) u
  whole_step x (task.Think e) (Err fail.DiskFault) y s u = absurd s
  whole_step x (task.Think e) (Err (fail.Full k n)) y s u = absurd s
  whole_step x task.Flush (Ok (answer.Thought t)) y s u = absurd s
  whole_step x task.Flush (Ok (answer.Kept n)) y s u = subst IsWhole (sym (ap (λ (l : Life). l.death) s.4)) u
  whole_step x task.Flush (Err fail.NoMemory) y s u = subst IsWhole (sym (ap (λ (l : Life). l.death) s.2)) u
  whole_step x task.Flush (Err fail.DiskFault) y s u = subst IsWhole (sym (ap (λ (l : Life). l.death) s.3)) tt
  whole_step x task.Flush (Err (fail.Full k n)) y s u = subst IsWhole (sym (ap (λ (l : Life). l.death) s.2)) tt
  whole_step x task.Flush (Err (fail.Dead w)) y s u = subst IsWhole (sym (ap (λ (l : Life). l.death) s.2)) u

  -- so do all
  whole_runs : (x : S) (ts : List (Task M × Answered M × S)) → Runs OneStep x ts → IsWhole (life (kept x)).death → IsWhole (life (kept (value_after x ts))).death
  whole_runs x [] r u = u
  whole_runs x (t ∷ ts) r u = whole_runs t.2 ts r.1 (whole_step (kept x) t.0 t.1 (kept t.2) r.0 u)

  -- so a task is never refused for a torn event
  fails_whole : (x : K) (t : Task M) (f : KeptFail) (y : K) → IsTaskStep moves stays keeps life x t (Err f) y → IsWhole (life x).death → IsUntorn f
  fails_whole x t fail.NoMemory y s u = tt
  fails_whole x t fail.DiskFault y s u = tt
  fails_whole x t (fail.Full k n) y s u = tt
  fails_whole x t (fail.Dead (why.Disk n)) y s u = tt
  fails_whole x t (fail.Dead (why.Full k n)) y s u = tt
  fails_whole x (task.Think e) (fail.Dead why.Torn) y s u = subst IsWhole s.0 u
  fails_whole x task.Flush (fail.Dead why.Torn) y s u = subst IsWhole s.0 u

  pub never_torn : (x : S) (ts : List (Task M × Answered M × S)) (t : Task M) (a : Answered M) (f : KeptFail) (y : S) → IsAlive (life (kept x)) → Runs OneStep x ts
      → OneStep (value_after x ts) t a y → a ≡ Err f → IsUntorn f
  never_torn x ts t a f y alive r s e = fails_whole (kept (value_after x ts)) t f (kept y) (subst (λ (b : Answered M). OneStep (value_after x ts) t b y) e s) (whole_runs x ts r (subst IsWhole (sym alive) tt))
