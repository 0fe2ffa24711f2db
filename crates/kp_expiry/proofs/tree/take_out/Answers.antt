use Rattle.std.proofs.Common.{◌<◌, ◌∙◌, ap, length, arith, slice_set}
use Rattle.std.proofs.lemmas.List.{length-map}
use Rattle.kp_expiry.specs.Nodes.{tag, tags}
use Rattle.kp_expiry.proofs.Mended.{written_back}
use Rattle.kp_expiry.proofs.Taken.{taken_put, taken_cut, mover_put}
use Rattle.kp_expiry.proofs.tree.take_out.Goals as goal

pub returns-then-node-len-clause-tags : goal.returns-then-node-len-clause-tags
returns-then-node-len-clause-tags c =
    let inside : c.args.node < length (tags c.take_last-last.new.slots.items) = omega (arith, c.if-node-len.true, c.len.ensures, length-map c.take_last-last.new.slots.items tag) in
    taken_put (tags c.args.slots.now.items) (tags c.take_last-last.new.slots.items) (tag c.take_last-last.result) c.take_last-last.ensures.tags c.args.node _ inside
    (ap tags (written_back _ c.put.new.slots c.take_last-last.new.slots.items (omega (arith, c.put.auto.slots, c.deref_mut.ensures.len)))
    ∙ c.put.ensures.tags
    ∙ ap (λ l. slice_set (tags l) c.args.node (tag c.take_last-last.result)) c.deref_mut.ensures.value)

pub returns-then-node-len-clause-mover : goal.returns-then-node-len-clause-mover
returns-then-node-len-clause-mover c =
    mover_put (tags c.args.slots.now.items) (tags c.take_last-last.new.slots.items) (tag c.take_last-last.result) c.take_last-last.ensures.tags c.args.node
    (omega (arith, c.if-node-len.true, c.len.ensures, length-map c.take_last-last.new.slots.items tag))

pub returns-else-node-len-clause-tags : goal.returns-else-node-len-clause-tags
returns-else-node-len-clause-tags c =
    taken_cut (tags c.args.slots.now.items) (tags c.take_last-last.new.slots.items) (tag c.take_last-last.result) c.take_last-last.ensures.tags c.args.node
    (omega (arith, c.if-node-len.false, c.len.ensures, length-map c.take_last-last.new.slots.items tag))
