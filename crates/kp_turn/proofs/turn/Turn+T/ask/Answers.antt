use Rattle.std.proofs.Common.{rules, arith, ℕ, ◌<◌}
use Rattle.atomic_table.proofs.Lists.{exchanged}
use Rattle.kp_turn.proofs.TurnSteps.{asks}
use Rattle.kp_turn.proofs.TurnCalls.{got}
use Rattle.kp_turn.proofs.turn.Turn+T.ask.Goals as goal

pub compare_exchange-requires : goal.compare_exchange-requires
compare_exchange-requires g c = (search rules, search rules, asks g.T.Storied.events g.T.Storied.steps _ _ _ _ _ c.requires.seat.out.0 c.requires.seat.out.1 (omega arith) (λ x taken. exchanged x 0 1 (λ (k : ℕ). 0 < k) (λ _. omega arith) (λ _. taken)))

pub returns-clause-has : goal.returns-clause-has
returns-clause-has g c = got g.T.Storied.events g.T.Storied.steps _ _ _ c.compare_exchange.ensures.2
