use Rattle.std.proofs.Common.{ap, sym, is_some, ◌∙◌}
use Rattle.kp_step.specs.Tables.{seated}
use Rattle.kp_node.proofs.Greets.{held_still, on_err}
use Rattle.kp_node.proofs.early.put_at.Goals as goal

pub returns-in-Some-clause-err : goal.returns-in-Some-clause-err
returns-in-Some-clause-err c = on_err _ _ c.put.result
    (λ h. c.get_mut.follows.holds (seated c.in-Some.seat.now c.put.new.self) (ap is_some (sym c.in-Some.ensures.value)) ∙ held_still c.args.seats.now c.args.number c.in-Some.seat.now (seated c.in-Some.seat.now c.put.new.self) c.in-Some.ensures.value (ap (seated c.in-Some.seat.now) h)) c.put.ensures.err
