use Rattle.std.proofs.Common.{rules}
use Rattle.kp_turn.proofs.TurnSteps.{gives_up}
use Rattle.kp_turn.proofs.turn.Turn+T.give_up.Goals as goal

pub swap-requires : goal.swap-requires
swap-requires g c = let t = c.requires.has.1 in (search rules, search rules, gives_up g.T.Storied.events g.T.Storied.steps _ _ _ _ t.0 (search rules) c.requires.has.0 t.1 t.2)
