use Rattle.std.proofs.Common.{◌≡◌, ◌≤◌, take, length}
use Rattle.kp_model.specs.Path.{last_slash}
use Rattle.kp_path.proofs.last_slash.Given as goal

abbrev pub invariant-loop-end : goal.invariant-loop-end
invariant-loop-end l = record { within : l.end ≤ length l.bytes; rest : last_slash l.bytes ≡ last_slash (take l.end l.bytes) }

abbrev pub decreases-loop-end : goal.decreases-loop-end
decreases-loop-end l = l.end
