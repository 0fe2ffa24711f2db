use Rattle.std.proofs.Common.{◌∙◌, arith}
use Rattle.std.proofs.lemmas.List.{length-map}
use Rattle.kp_expiry.specs.Nodes.{tag, tags}
use Rattle.kp_expiry.proofs.Again.{all_known}
use Rattle.kp_expiry.proofs.expiry.hear_all.Goals as goal

pub returns-clause-known : goal.returns-clause-known
returns-clause-known c = λ k.
    c.loop-node.invariant.2 k
    ∙ all_known c.args.known.now.entries (tags c.args.slots.now) c.requires c.loop-node.node c.args.now (omega (arith, c.loop-node-test.false, c.loop-node.auto.node-end, c.loop-node.invariant.0, length-map c.args.slots.now tag)) k
