use Rattle.kp_worker.proofs.Drained.{turn_there}
use Rattle.kp_worker.proofs.Released.{turn_few}
use Rattle.kp_worker.proofs.turning.think_and_leave.Goals as goal

pub release-requires-clause-waits : goal.release-requires-clause-waits
release-requires-clause-waits g c = let k = c.in-Ok.ensures.tells in turn_few k.0 c.args.kinds.items k.1 c.in-Ok.notes.items (g.L.Lines.sees c.args.lines.now).waits k.2 k.3 k.4.accepts k.5 c.requires.waits

pub release-requires-clause-there : goal.release-requires-clause-there
release-requires-clause-there g c = let k = c.in-Ok.ensures.tells in turn_there (g.L.Lines.sees c.args.lines.now) k.0 c.args.kinds.items k.1 c.in-Ok.notes.items k.3 c.requires.undrained k.4 k.5
