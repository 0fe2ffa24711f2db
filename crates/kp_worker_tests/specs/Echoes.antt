-- How far the small node is, and what it may do.
use Rattle.std.specs.Prelude.{None, ⊤}
use Rattle.kp_event.specs.declared.event.NodeEvent.{NodeEvent}
use Rattle.kp_event.specs.declared.thought.Thought.{Thought}
use Rattle.kp_shared.specs.declared.kept.Life.{Life}
use Rattle.kp_shared.specs.Letters.{Letter}
use Rattle.kp_worker_tests.specs.declared.echo.Echo.{Echo}
use Rattle.kp_worker_tests.specs.declared.message.Message.{Message}

abbrev pub life_of : Echo → Life
life_of x = record { death = None; faults = 0; thought = x.thought; kept = x.kept }

abbrev pub any_move : Echo → NodeEvent Message → Thought (Letter Message) → Echo → Type 0
any_move x e t y = ⊤

abbrev pub any_stay : Echo → Echo → Type 0
any_stay x y = ⊤
