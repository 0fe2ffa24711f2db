use Rattle.kp_turn.proofs.TurnCalls.{added, got_once, only_saw}
use Rattle.kp_turn.proofs.OwnEvents.{adds_own, sees_own}
use Rattle.kp_turn.proofs.turn.Turn+T.try_with.Goals as goal

pub take_event-requires-clause-has : goal.take_event-requires-clause-has
take_event-requires-clause-has g c = (c.ask.ensures.has c.if-ask-ne-FREE.false).0

pub returns-in-Ok-clause-seat : goal.returns-in-Ok-clause-seat
returns-in-Ok-clause-seat g c = let got = (c.ask.ensures.has c.if-ask-ne-FREE.false).1 in
    let adds = added g.T.Storied.steps c.args.seat.now.me.0 c.ask.new.seat.me.0 c.take_event.new.seat.me.0 _ _ c.requires.seat.out.1 (got_once c.args.seat.now.me.0 c.ask.new.seat.me.0 got).0 c.in-Ok.ensures.event in
    record { same_table = c.take_event.ensures.seat.0; out = c.take_event.ensures.seat.1; saw_own = (adds_own g.T.Storied.steps _ _ _ _ adds c.requires.seat.saw_own).1 }

pub returns-in-Ok-clause-own : goal.returns-in-Ok-clause-own
returns-in-Ok-clause-own g c = let got = (c.ask.ensures.has c.if-ask-ne-FREE.false).1 in
    let adds = added g.T.Storied.steps c.args.seat.now.me.0 c.ask.new.seat.me.0 c.take_event.new.seat.me.0 _ _ c.requires.seat.out.1 (got_once c.args.seat.now.me.0 c.ask.new.seat.me.0 got).0 c.in-Ok.ensures.event in
    (adds_own g.T.Storied.steps _ _ _ _ adds c.requires.seat.saw_own).0

pub returns-in-Err-clause-own : goal.returns-in-Err-clause-own
returns-in-Err-clause-own g c = let got = (c.ask.ensures.has c.if-ask-ne-FREE.false).1 in
    (sees_own _ _ (only_saw c.args.seat.now.me.0 c.ask.new.seat.me.0 c.take_event.new.seat.me.0 c.requires.seat.out.1 got c.in-Err.ensures.event.1).0 c.requires.seat.saw_own).0
