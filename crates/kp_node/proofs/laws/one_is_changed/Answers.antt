use Rattle.kp_node.proofs.Touched.{others_stay, one_is_changed, none_is_changed}
use Rattle.kp_node.proofs.laws.one_is_changed.Goals as goal

pub returns : goal.returns
returns c = record { others = others_stay; one = one_is_changed; none = none_is_changed }
