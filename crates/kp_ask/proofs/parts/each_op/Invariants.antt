use Rattle.std.proofs.Common.{◌≡◌, take, map}
use Rattle.kp_ask.specs.Asks.{op_of}
use Rattle.kp_ask.proofs.parts.each_op.Given as goal

abbrev pub invariant-loop-part : goal.invariant-loop-part
invariant-loop-part l = l.ops ≡ map op_of (take l.part-index l.parts)
