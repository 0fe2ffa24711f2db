use Rattle.std.proofs.Common.{◌≡◌, drop}
use Rattle.kp_watch.specs.Watching.{fired}
use Rattle.kp_watch.proofs.watches.Watches.take_all.Given as goal

abbrev pub invariant-loop-event : goal.invariant-loop-event
invariant-loop-event l = (fired l.self (drop l.event-index l.events)).left ≡ (fired l.fn.self l.events).left
