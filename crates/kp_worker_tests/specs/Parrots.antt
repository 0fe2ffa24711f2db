-- How far the small node of many connections is, and what it may do.
use Rattle.std.specs.Prelude.{⊤}
use Rattle.kp_event.specs.declared.event.NodeEvent.{NodeEvent}
use Rattle.kp_event.specs.declared.thought.Thought.{Thought}
use Rattle.kp_shared.specs.declared.kept.Life.{Life}
use Rattle.kp_shared.specs.Letters.{Letter}
use Rattle.kp_worker_tests.specs.declared.parrot.Parrot.{Parrot}
use Rattle.kp_worker_tests.specs.declared.message.Message.{Message}

abbrev pub life_of : Parrot → Life
life_of x = record { death = x.death; faults = x.faults; thought = x.thought; kept = x.kept }

abbrev pub any_move : Parrot → NodeEvent Message → Thought (Letter Message) → Parrot → Type 0
any_move x e t y = ⊤

abbrev pub any_stay : Parrot → Parrot → Type 0
any_stay x y = ⊤
