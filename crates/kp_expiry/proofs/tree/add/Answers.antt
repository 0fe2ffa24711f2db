use Rattle.std.proofs.Common.{◌≡◌, ◌++◌, ◌∷◌, [], ◌∙◌, subst, length, arith}
use Rattle.kp_expiry.specs.Nodes.{AreRightAbove}
use Rattle.kp_expiry.proofs.Mended.{added_right}
use Rattle.kp_expiry.proofs.tree.add.Goals as goal

pub mend_above-requires-clause-right : goal.mend_above-requires-clause-right
mend_above-requires-clause-right c =
    let is : c.deref_mut.result.now ≡ c.args.slots.now.items ++ record { session = c.args.session; deadline = c.args.deadline; least = c.args.deadline } ∷ [] = c.deref_mut.ensures.value ∙ c.push_reserved.ensures.items in
    let node : length c.args.slots.now.items ≡ c.len-node.result = omega (arith, c.len-node.ensures) in
    subst (AreRightAbove c.deref_mut.result.now) node (added_right c.args.slots.now.items c.deref_mut.result.now c.args.session c.args.deadline is c.requires.right)
