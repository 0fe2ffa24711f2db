use Rattle.std.proofs.Common.{◌≡◌, ◌++◌, drop, map}
use Rattle.kp_top.specs.LineCommands.{nested_op}
use Rattle.kp_top.proofs.line_commands.nested_ops.Given as goal

abbrev pub invariant-loop-operation : goal.invariant-loop-operation
invariant-loop-operation l = l.ops ++ map nested_op (drop l.operation-index l.operations) ≡ map nested_op l.operations
