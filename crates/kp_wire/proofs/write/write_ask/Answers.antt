use Rattle.std.proofs.Common.{subst}
use Rattle.kp_jute.specs.Form.{Wrote}
use Rattle.kp_wire.specs.Kinds.{kind_forms}
use Rattle.kp_wire.proofs.RequestWrites.{ask_written}
use Rattle.kp_wire.proofs.write.write_ask.Goals as goal

pub returns : goal.returns
returns c =
    let kind = subst (λ k. Wrote kind_forms k c.args.writer.now c.write_kind.new.writer) c.kind_of_ask.ensures c.in_ok-write_kind.ensures in
    ask_written c.args.ask.now c.args.writer.now c.write_kind.new.writer c.write_fields.new.writer kind c.in_ok-write_fields.ensures
