use Rattle.std.proofs.Common.{rules, arith}
use Rattle.kp_turn.proofs.TurnSteps.{asks}
use Rattle.kp_turn.proofs.TurnCalls.{got}
use Rattle.kp_turn.proofs.turn.Turn+T.ask_to_sleep.Goals as goal

pub swap-requires : goal.swap-requires
swap-requires g c = (search rules, search rules, asks g.T.Storied.events g.T.Storied.steps _ _ _ _ (λ _. 2) c.requires.seat.out.0 c.requires.seat.out.1 (omega arith) (λ x taken. omega arith))

pub returns-clause-has : goal.returns-clause-has
returns-clause-has g c = got g.T.Storied.events g.T.Storied.steps _ _ _ c.swap.ensures.2
