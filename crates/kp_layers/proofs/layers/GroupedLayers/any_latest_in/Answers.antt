use Rattle.std.proofs.Common.{ap, ◌∙◌}
use Rattle.std.specs.FinMap as map
use Rattle.std.specs.List.{list_any}
use Rattle.kp_layers.specs.Layering.{latest_of}
use Rattle.kp_layers.specs.Grouped.{is_in}
use Rattle.kp_layers.proofs.Cuts.{latest_is}
use Rattle.kp_layers.proofs.layers.GroupedLayers.any_latest_in.Goals as goal

pub returns : goal.returns
returns g c = c.any_in.ensures ∙ ap (λ m. list_any (is_in g.S.Group.PartialEq.eq g.S.Grouping.group_of m c.args.group) (map.keys m)) (latest_is _ _ _ _ _ c.self.invariant ∙ ap latest_of c.self.view_is)
