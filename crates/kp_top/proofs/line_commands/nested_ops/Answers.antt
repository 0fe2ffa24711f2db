use Rattle.std.proofs.Common.{◌∙◌, ◌++◌, ◌∷◌, [], ap, map}
use Rattle.kp_top.specs.LineCommands.{nested_op}
use Rattle.kp_top.proofs.Mapped.{mapped_more, mapped_all}
use Rattle.kp_top.proofs.line_commands.nested_ops.Goals as goal

pub loop-operation-preserved : goal.loop-operation-preserved
loop-operation-preserved c =
    mapped_more nested_op c.loop-operation.ops c.push.new.self (map nested_op c.args.operations.now) c.args.operations.now c.loop-operation.operation-index c.operation-item.result
    c.loop-operation-test.true c.operation-item.is (c.in_ok-push.ensures.ok ∙ ap (λ y. c.loop-operation.ops ++ y ∷ []) c.in_ok-nested_op.ensures) c.loop-operation.invariant

pub returns : goal.returns
returns c =
    mapped_all nested_op c.loop-operation.ops (map nested_op c.args.operations.now) c.args.operations.now c.loop-operation.operation-index c.loop-operation-test.false c.loop-operation.invariant
