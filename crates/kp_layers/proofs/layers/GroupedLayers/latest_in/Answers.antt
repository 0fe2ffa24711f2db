use Rattle.std.proofs.Common.{◌≡◌, IfOk, ap, subst, ◌∙◌}
use Rattle.std.specs.FinMap as map
use Rattle.std.specs.List.{filter}
use Rattle.kp_layers.specs.Layering.{latest_of}
use Rattle.kp_layers.specs.Grouped.{is_in}
use Rattle.kp_layers.proofs.Cuts.{latest_is}
use Rattle.kp_layers.proofs.layers.GroupedLayers.latest_in.Goals as goal

pub returns : goal.returns
returns g c = subst (λ m. IfOk c.keys_in.result (λ ks. ks.items ≡ filter (is_in g.S.Group.PartialEq.eq g.S.Grouping.group_of m c.args.group) (map.keys m))) (latest_is _ _ _ _ _ c.self.invariant ∙ ap latest_of c.self.view_is) c.keys_in.ensures
