use Rattle.std.proofs.Common.{◌≡◌, ◌-◌, ◌≤◌, take, drop}
use Rattle.kp_storage.specs.Kept.{with_all}
use Rattle.kp_node.proofs.appends.add_some.Given as goal

abbrev pub invariant-loop-place : goal.invariant-loop-place
invariant-loop-place l = l.storage ≡ with_all l.fn.storage (take (l.place - l.from) (drop l.from l.entries))
