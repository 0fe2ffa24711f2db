use Rattle.std.proofs.Common.{sym, subst}
use Rattle.std.specs.Prelude.{OnOk}
use Rattle.kp_jute.specs.Form.{Wrote}
use Rattle.kp_wire.specs.Replies.{replies, shape_in}
use Rattle.kp_wire.proofs.ReplyWrites.{wrote_done}
use Rattle.kp_wire.proofs.reply.write_answer.Goals as goal

pub returns-in-Err : goal.returns-in-Err
returns-in-Err c = subst (λ r. OnOk c.write_error.result (Wrote (replies (shape_in r)) r c.args.writer.now c.write_error.new.writer)) (sym c.in-Err.is) c.write_error.ensures

pub returns : goal.returns
returns c = wrote_done c.args.reply.now c.args.writer.now c.int.new.self c.write_body.new.writer c.in_ok-int.ensures.ok c.in_ok-write_body.ensures
