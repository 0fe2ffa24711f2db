-- The laws on histories, one task at a time.
use Rattle.std.proofs.Common.{◌≡◌, ℕ, [], ◌∷◌, refl, sym, ap, ◌∙◌, subst, arith}
use Rattle.std.specs.Prelude.{Option, None, Ok, Err}
use Rattle.kp_shared.specs.declared.kept.Life.{Life}
use Rattle.kp_event.specs.declared.event.NodeEvent.{NodeEvent}
use Rattle.kp_event.specs.declared.thought.Thought.{Thought}
use Rattle.kp_shared.specs.declared.task.Task.{Task}
use Rattle.kp_shared.specs.declared.task.Task.TheVariants as task
use Rattle.kp_shared.specs.declared.task.Answer.TheVariants as answer
use Rattle.kp_event.specs.declared.fail.KeptFail.TheVariants as fail
use Rattle.kp_event.specs.declared.fail.Why.{Why}
use Rattle.kp_shared.specs.Letters.{Letter}
use Rattle.kp_shared.specs.TaskSteps.{Answered, IsTaskStep}
use Rattle.kp_shared.specs.TaskLaws.{DiesOnce, Fits, Histories, Keeps, KeepsAll, death_after, last_thought}

-- a live node that answers so
live : {M : Type 0} (d e : Option Why) (a : Answered M) (n : ℕ) → d ≡ None → Fits None a → e ≡ death_after None a n → Fits d a × (e ≡ death_after d a n)
live d e a n alive fits after = subst (λ (x : Option Why). Fits x a × (e ≡ death_after x a n)) (sym alive) (fits, after)

module _ {K M : Type 0} (moves : K → NodeEvent M → Thought (Letter M) → K → Type 0) (stays keeps : K → K → Type 0) (life : K → Life) where
  step_dies : (x : K) (t : Task M) (a : Answered M) (y : K) → IsTaskStep moves stays keeps life x t a y → Fits (life x).death a × ((life y).death ≡ death_after (life x).death a (life y).faults)
  step_dies x (task.Think e) (Ok (answer.Thought t)) y s = live (life x).death (life y).death (Ok (answer.Thought t)) (life y).faults s.0 tt (ap (λ (l : Life). l.death) s.4 ∙ s.0)
  step_dies x (task.Think e) (Ok (answer.Kept n)) y s = absurd s
  step_dies x (task.Think e) (Err fail.NoMemory) y s = live (life x).death (life y).death (Err fail.NoMemory) (life y).faults s.0 tt (ap (λ (l : Life). l.death) s.2 ∙ s.0)
  step_dies x (task.Think e) (Err (fail.Dead w)) y s = subst (λ (d : Option Why). Fits {M = M} d (Err (fail.Dead w)) × ((life y).death ≡ death_after {M = M} d (Err (fail.Dead w)) (life y).faults)) (sym s.0) (refl, ap (λ (l : Life). l.death) s.2 ∙ s.0)
  step_dies x (task.Think e) (Err fail.DiskFault) y s = absurd s
  step_dies x (task.Think e) (Err (fail.Full k n)) y s = absurd s
  step_dies x task.Flush (Ok (answer.Thought t)) y s = absurd s
  step_dies x task.Flush (Ok (answer.Kept n)) y s = live (life x).death (life y).death (Ok (answer.Kept n)) (life y).faults s.0 tt (ap (λ (l : Life). l.death) s.4 ∙ s.0)
  step_dies x task.Flush (Err fail.NoMemory) y s = live (life x).death (life y).death (Err fail.NoMemory) (life y).faults s.0 tt (ap (λ (l : Life). l.death) s.2 ∙ s.0)
  step_dies x task.Flush (Err fail.DiskFault) y s = live (life x).death (life y).death (Err fail.DiskFault) (life y).faults s.0 tt (ap (λ (l : Life). l.death) s.3)
  step_dies x task.Flush (Err (fail.Full k n)) y s = live (life x).death (life y).death (Err (fail.Full k n)) (life y).faults s.0 tt (ap (λ (l : Life). l.death) s.2)
  step_dies x task.Flush (Err (fail.Dead w)) y s = subst (λ (d : Option Why). Fits {M = M} d (Err (fail.Dead w)) × ((life y).death ≡ death_after {M = M} d (Err (fail.Dead w)) (life y).faults)) (sym s.0) (refl, ap (λ (l : Life). l.death) s.2 ∙ s.0)

  pub dies_once : Histories moves stays keeps life (λ x ts. DiesOnce life (life x).death ts)
  dies_once x [] r = tt
  dies_once x (p ∷ ps) r = let s = step_dies x p.0 p.1 p.2 r.0 in (s.0, subst (λ (d : Option Why). DiesOnce life d ps) s.1 (dies_once p.2 ps r.1))

  step_keeps : (x : K) (t : Task M) (a : Answered M) (y : K) → IsTaskStep moves stays keeps life x t a y → Keeps (life x).thought a × ((life y).thought ≡ last_thought (life x).thought a)
  step_keeps x (task.Think e) (Ok (answer.Thought t)) y s = (tt, ap (λ (l : Life). l.thought) s.4 ∙ sym s.3)
  step_keeps x (task.Think e) (Ok (answer.Kept n)) y s = absurd s
  step_keeps x (task.Think e) (Err fail.NoMemory) y s = (tt, ap (λ (l : Life). l.thought) s.2)
  step_keeps x (task.Think e) (Err (fail.Dead w)) y s = (tt, ap (λ (l : Life). l.thought) s.2)
  step_keeps x (task.Think e) (Err fail.DiskFault) y s = absurd s
  step_keeps x (task.Think e) (Err (fail.Full k n)) y s = absurd s
  step_keeps x task.Flush (Ok (answer.Thought t)) y s = absurd s
  step_keeps x task.Flush (Ok (answer.Kept n)) y s = (let e = s.3 in omega arith, ap (λ (l : Life). l.thought) s.4)
  step_keeps x task.Flush (Err fail.NoMemory) y s = (tt, ap (λ (l : Life). l.thought) s.2)
  step_keeps x task.Flush (Err fail.DiskFault) y s = (tt, ap (λ (l : Life). l.thought) s.3)
  step_keeps x task.Flush (Err (fail.Full k n)) y s = (tt, ap (λ (l : Life). l.thought) s.2)
  step_keeps x task.Flush (Err (fail.Dead w)) y s = (tt, ap (λ (l : Life). l.thought) s.2)

  pub keeps_all : Histories moves stays keeps life (λ x ts. KeepsAll (life x).thought ts)
  keeps_all x [] r = tt
  keeps_all x (p ∷ ps) r = let s = step_keeps x p.0 p.1 p.2 r.0 in (s.0, subst (λ (m : ℕ). KeepsAll m ps) s.1 (keeps_all p.2 ps r.1))
