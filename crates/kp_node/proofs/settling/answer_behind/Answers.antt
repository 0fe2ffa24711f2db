use Rattle.std.proofs.Common.{◌∙◌, ap}
use Rattle.kp_node.specs.Deciding.{with_events}
use Rattle.kp_node.proofs.Putting.{back_all}
use Rattle.kp_node.proofs.settling.answer_behind.Goals as goal

pub returns-in-Err-clause-err : goal.returns-in-Err-clause-err
returns-in-Err-clause-err c =
    back_all c.args.conn.now c.answer.new.self c.take_back.new.conn c.args.events.now c.len.result
    (c.in-Err.ensures.err ∙ c.in_ok-put_events.ensures.ok ∙ ap (λ es. with_events es c.args.conn.now) c.as_slice.ensures) c.len.ensures c.take_back.ensures
