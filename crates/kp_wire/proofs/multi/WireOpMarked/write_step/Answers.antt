use Rattle.std.proofs.Common.{Some, subst}
use Rattle.kp_jute.specs.Form.{Wrote}
use Rattle.kp_wire.specs.Request.{step_kinds}
use Rattle.kp_wire.proofs.RequestWrites.{step_written}
use Rattle.kp_wire.proofs.multi.WireOpMarked.write_step.Goals as goal

pub returns : goal.returns
returns c =
    let kind = subst (λ k. Wrote step_kinds (Some k) c.args.writer.now c.write_step_kind.new.writer) c.kind_of_op.ensures c.in_ok-write_step_kind.ensures in
    step_written c.args.self.now c.args.writer.now c.write_step_kind.new.writer c.write_mark.new.writer c.write_op.new.writer kind c.in_ok-write_mark.ensures c.in_ok-write_op.ensures
