use Rattle.std.proofs.Common.{ap, ◌∙◌}
use Rattle.kp_layers.specs.Used.{is_used}
use Rattle.kp_layers.proofs.Used.{known_is}
use Rattle.kp_layers.proofs.layers.GroupedLayers.is_used.Goals as goal

pub returns : goal.returns
returns g c =
    c.is_known.ensures
    ∙ known_is _ _ _ _ _ c.args.key c.self.invariant
    ∙ ap (λ l. is_used l c.args.key) c.self.view_is
