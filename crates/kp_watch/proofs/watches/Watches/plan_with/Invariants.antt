use Rattle.std.proofs.Common.{◌≡◌, take}
use Rattle.kp_watch.specs.Watching.{fired, shown, somes}
use Rattle.kp_watch.specs.Gone.{Leaves}
use Rattle.kp_watch.proofs.watches.Watches.plan_with.Given as goal

abbrev pub invariant-loop-at : goal.invariant-loop-at
invariant-loop-at l = Leaves l.self l.gone (fired l.self (take l.at l.events)).left × (shown l.events l.fired.items ≡ somes (fired l.self (take l.at l.events)).pairs)
