use Rattle.std.proofs.Common.{◌≡◌, IfOk, ap, subst, ◌∙◌}
use Rattle.std.specs.FinMap as map
use Rattle.kp_layers.specs.Layering.{latest_of}
use Rattle.kp_layers.proofs.Cuts.{latest_is}
use Rattle.kp_layers.proofs.layers.GroupedLayers.latest_keys.Goals as goal

pub returns : goal.returns
returns g c = subst (λ m. IfOk c.keys.result (λ ks. ks.items ≡ map.keys m)) (latest_is _ _ _ _ _ c.self.invariant ∙ ap latest_of c.self.view_is) c.keys.ensures
