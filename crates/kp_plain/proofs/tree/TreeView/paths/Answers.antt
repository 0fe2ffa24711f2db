use Rattle.std.proofs.Common.{ap, ◌∙◌}
use Rattle.std.specs.FinMap as map
use Rattle.kp_model.specs.State.{State}
use Rattle.kp_act.proofs.Acts.{if_same}
use Rattle.kp_plain.proofs.Listing.{every}
use Rattle.kp_plain.proofs.tree.TreeView.paths.Goals as goal

pub returns : goal.returns
returns c = if_same c.picked.result _ _ (every c.self.inside.nodes (map.keys c.self.inside.nodes) ∙ ap (λ (s : State). map.keys s.nodes) c.self.view_is) c.picked.ensures
