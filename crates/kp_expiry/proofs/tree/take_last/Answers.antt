use Rattle.std.proofs.Common.{◌≡◌, ◌++◌, ◌∷◌, [], ◌∙◌, ap, sym, subst, length, arith}
use Rattle.std.specs.Option.{option_to_list}
use Rattle.kp_expiry.specs.Nodes.{AreRightAbove}
use Rattle.kp_expiry.proofs.Mended.{cut_right}
use Rattle.kp_expiry.proofs.tree.take_last.Goals as goal

pub mend_above-requires-clause-right : goal.mend_above-requires-clause-right
mend_above-requires-clause-right c =
    let now : c.deref_mut.result.now ≡ c.pop.new.self.items = c.deref_mut.ensures.value in
    let is : c.args.slots.now.items ≡ c.pop.new.self.items ++ c.unwrap-last.result ∷ [] = c.pop.ensures.items ∙ ap (λ o. c.pop.new.self.items ++ option_to_list o) c.unwrap-last.ensures in
    let node : length c.deref_mut.result.now ≡ c.len-node.result = omega (arith, c.deref_mut.ensures.len, c.len-node.ensures) in
    subst (AreRightAbove c.deref_mut.result.now) node
    (cut_right c.args.slots.now.items c.deref_mut.result.now c.unwrap-last.result (is ∙ ap (λ l. l ++ c.unwrap-last.result ∷ []) (sym now)) c.requires.right)
