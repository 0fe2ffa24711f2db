use Rattle.kp_turn.proofs.TurnCalls.{added, looked, only_waited}
use Rattle.kp_turn.proofs.OwnEvents.{adds_own, waits_own}
use Rattle.kp_turn.proofs.turn.Turn+T.with.Goals as goal

pub returns-in-Ok-clause-seat : goal.returns-in-Ok-clause-seat
returns-in-Ok-clause-seat g c = let waits = looked c.args.seat.now.me.0 c.count.new.seat.me.0 c.wait.new.seat.me.0 c.count.ensures.view c.wait.ensures.has.1 in
    let adds = added g.T.Storied.steps c.args.seat.now.me.0 c.wait.new.seat.me.0 c.take_event.new.seat.me.0 _ _ c.requires.seat.out.1 waits c.in-Ok.ensures.event in
    record { same_table = c.take_event.ensures.seat.0; out = c.take_event.ensures.seat.1; saw_own = (adds_own g.T.Storied.steps _ _ _ _ adds c.requires.seat.saw_own).1 }

pub returns-in-Ok-clause-own : goal.returns-in-Ok-clause-own
returns-in-Ok-clause-own g c = let waits = looked c.args.seat.now.me.0 c.count.new.seat.me.0 c.wait.new.seat.me.0 c.count.ensures.view c.wait.ensures.has.1 in
    let adds = added g.T.Storied.steps c.args.seat.now.me.0 c.wait.new.seat.me.0 c.take_event.new.seat.me.0 _ _ c.requires.seat.out.1 waits c.in-Ok.ensures.event in
    (adds_own g.T.Storied.steps _ _ _ _ adds c.requires.seat.saw_own).0

pub returns-clause-own : goal.returns-clause-own
returns-clause-own g c = let waits = looked c.args.seat.now.me.0 c.count.new.seat.me.0 c.wait.new.seat.me.0 c.count.ensures.view c.wait.ensures.has.1 in
    (waits_own _ _ (only_waited c.args.seat.now.me.0 c.wait.new.seat.me.0 c.take_event.new.seat.me.0 c.requires.seat.out.1 waits c.in-Err.ensures.event.1).0 c.requires.seat.saw_own).0
