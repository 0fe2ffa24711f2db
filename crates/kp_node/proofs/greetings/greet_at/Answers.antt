use Rattle.std.proofs.Common.{◌≡◌, sym, subst, ap, is_some, ◌∙◌}
use Rattle.kp_seats.specs.Walked.{IsStep}
use Rattle.kp_seats.proofs.Passing.{stepped}
use Rattle.kp_node.specs.Greeting.{SeatGreets}
use Rattle.kp_node.proofs.Greets.{held_still, if_ok, on_err}
use Rattle.kp_node.proofs.greetings.greet_at.Goals as goal

pub returns-in-Some-clause-ok : goal.returns-in-Some-clause-ok
returns-in-Some-clause-ok c = if_ok _ _ c.greet_seat.result
    (λ f h. subst (IsStep (SeatGreets c.args.welcome.now f) c.args.conn c.args.seats.now) (sym (c.get_mut.follows.holds c.greet_seat.new.seat (ap is_some (sym c.in-Some.ensures.value))))
    (stepped (SeatGreets c.args.welcome.now f) c.args.conn c.args.seats.now c.in-Some.seat.now c.greet_seat.new.seat c.in-Some.ensures.value h)) c.greet_seat.ensures.ok

pub returns-in-Some-clause-err : goal.returns-in-Some-clause-err
returns-in-Some-clause-err c = on_err _ _ c.greet_seat.result
    (λ h. c.get_mut.follows.holds c.greet_seat.new.seat (ap is_some (sym c.in-Some.ensures.value)) ∙ held_still c.args.seats.now c.args.conn c.in-Some.seat.now c.greet_seat.new.seat c.in-Some.ensures.value h) c.greet_seat.ensures.err
