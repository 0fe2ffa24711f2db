use Rattle.std.specs.Prelude.{◌≡◌, ℕ, drop, List}
use Rattle.kp_model.specs.declared.reply.Event.{Event}
use Rattle.kp_seats.specs.Walked.{SameBeside}
use Rattle.kp_watch.specs.Watching.{shown, somes}
use Rattle.kp_node.proofs.Fired.{IsToTell}
use Rattle.kp_node.proofs.firing.tell.Given as goal

abbrev pub invariant-loop-one : goal.invariant-loop-one
invariant-loop-one l = ((pairs : List (ℕ × Event)) → shown l.events l.fired ≡ somes pairs → IsToTell l.events (drop l.one-index l.fired) pairs l.fn.seats.seats l.seats.seats) × SameBeside l.fn.seats l.seats
