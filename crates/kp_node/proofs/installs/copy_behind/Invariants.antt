use Rattle.std.proofs.Common.{◌≡◌, ◌-◌, take}
use Rattle.kp_entry.specs.Log.{behind}
use Rattle.kp_node.proofs.installs.copy_behind.Given as goal

abbrev pub invariant-loop-place : goal.invariant-loop-place
invariant-loop-place l = l.list.items ≡ take (l.place - l.index) (behind l.raft.held.log l.index)
