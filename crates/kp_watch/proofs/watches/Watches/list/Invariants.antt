use Rattle.std.proofs.Common.{◌≡◌, ◌++◌, map}
use Rattle.kp_watch.proofs.watches.Watches.list.Given as goal

abbrev pub invariant-loop-watch : goal.invariant-loop-watch
invariant-loop-watch l = map (λ w. w.now) l.list.items ++ l.watch-iterator ≡ l.self
