use Rattle.std.proofs.Common.{rules, None, sym, ◌∙◌, ap}
use Rattle.kp_turn.proofs.TurnSteps.{opens}
use Rattle.kp_turn.proofs.turn.Turn+T.new.Goals as goal

pub new-requires : goal.new-requires
new-requires g c = opens g.T.Storied.events g.T.Storied.steps _ _ record { value = c.args.value; last = None } (search rules) (sym c.of-start.ensures) (ap g.T.Storied.events c.of-start.ensures ∙ c.requires)
