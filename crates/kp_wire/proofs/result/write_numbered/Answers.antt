use Rattle.std.proofs.Common.{Some, sym, subst, ◌∙◌}
use Rattle.std.specs.Prelude.{OnOk}
use Rattle.kp_jute.specs.Form.{Wrote}
use Rattle.kp_wire.specs.OpResults.{result_steps}
use Rattle.kp_wire.proofs.KindLaws.{op_back}
use Rattle.kp_wire.proofs.result.write_numbered.Goals as goal

pub returns-in-Some : goal.returns-in-Some
returns-in-Some c =
    let answer = c.args.answer.now in
    subst (λ z. OnOk c.write_result.result (Wrote result_steps (Some (z, answer.1)) c.args.writer.now c.write_result.new.writer)) (op_back answer.0 c.in-Some.kind (sym c.kind_named.ensures ∙ c.in-Some.is)) c.write_result.ensures
