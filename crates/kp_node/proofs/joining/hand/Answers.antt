use Rattle.std.proofs.Common.{sym, subst}
use Rattle.kp_node.specs.Joining.{IsHanded}
use Rattle.kp_node.proofs.Joined.{handed_in, sent_on, on_ok}
use Rattle.kp_node.proofs.joining.hand.Goals as goal

pub returns-then-ground-clause-ok : goal.returns-then-ground-clause-ok
returns-then-ground-clause-ok c = on_ok c.hand_in.result (handed_in c.args.ground c.args.storage.now c.hand_in.new.storage c.args.bodies.now.items c.args.forwards.now.items c.hand_in.new.bodies.items c.args.body c.if-ground.true) c.hand_in.ensures.ok

pub returns-clause-ok : goal.returns-clause-ok
returns-clause-ok c = subst (λ fs. IsHanded c.args.ground c.args.storage.now c.args.bodies.now.items c.args.forwards.now.items c.args.body c.args.storage.now c.args.bodies.now.items fs) (sym c.in_ok-push.ensures.items)
    (sent_on c.args.ground c.args.storage.now c.args.storage.now c.args.bodies.now.items c.args.forwards.now.items c.args.bodies.now.items c.args.body c.if-ground.false)
