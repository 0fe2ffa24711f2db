use Rattle.std.proofs.Common.{ap, ◌∙◌}
use Rattle.kp_layers.specs.Used.{is_known}
use Rattle.kp_layers.proofs.Used.{cell_is}
use Rattle.kp_layers.proofs.history.History.is_known.Goals as goal

pub returns : goal.returns
returns g c =
    c.contains_key.ensures
    ∙ cell_is _ _ _ c.args.key c.self.invariant.0.chains
    ∙ ap (λ p. is_known p c.args.key) c.self.view_is
