use Rattle.std.proofs.Common.{◌≡◌, drop}
use Rattle.kp_watch.specs.Watching.{set_line, shows, Grown}
use Rattle.kp_watch.proofs.watches.Watches.set_line.Given as goal

abbrev pub invariant-loop-path : goal.invariant-loop-path
invariant-loop-path g l = (set_line (g.V.View.state l.view).nodes l.conn l.since l.line (drop l.path-index l.paths) (shows l.conn l.events l.self) ≡ set_line (g.V.View.state l.view).nodes l.conn l.since l.line l.paths (shows l.conn l.fn.events l.fn.self)) × Grown l.fn.self l.self
