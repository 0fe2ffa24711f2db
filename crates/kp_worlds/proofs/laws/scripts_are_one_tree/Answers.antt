use Rattle.kp_worlds.proofs.Trees.{one_tree_of}
use Rattle.kp_worlds.proofs.laws.scripts_are_one_tree.Goals as goal

pub returns : goal.returns
returns c = one_tree_of c.one_tree.ensures.one_list c.one_tree.ensures.folds
