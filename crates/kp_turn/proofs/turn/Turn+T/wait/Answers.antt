use Rattle.kp_turn.proofs.TurnCalls.{Asks-first, waited}
use Rattle.kp_turn.proofs.turn.Turn+T.wait.Goals as goal

pub returns-then-ask-eq-FREE-clause-has : goal.returns-then-ask-eq-FREE-clause-has
returns-then-ask-eq-FREE-clause-has g c = let h = c.ask.ensures.has c.if-ask-eq-FREE.true in (h.0, waited _ _ _ (Asks-first c.args.seat.now.me c.requires.seat.out) h.1)

pub returns-then-ask_to_sleep-eq-FREE-clause-has : goal.returns-then-ask_to_sleep-eq-FREE-clause-has
returns-then-ask_to_sleep-eq-FREE-clause-has g c = let h = c.ask_to_sleep.ensures.has c.if-ask_to_sleep-eq-FREE.true in (h.0, waited c.args.seat.now.me.0 _ c.loop.seat.me c.loop.invariant.1 h.1)
