use Rattle.std.proofs.Common.{◌∙◌, ◌++◌, ap, ◌∷◌, []}
use Rattle.std.specs.Vec.Iter.{into_iter_items}
use Rattle.kp_node.specs.Serving.{sent_to}
use Rattle.kp_node.proofs.Joined.{more_left}
use Rattle.kp_node.proofs.HandedOver.{more_sent}
use Rattle.kp_node.proofs.serving.send_all.Goals as goal

pub loop-body-preserved : goal.loop-body-preserved
loop-body-preserved c = record {
  so_far = more_sent (sent_to c.args.ground) c.loop-body.mails.items _ _ c.in-Some.body (into_iter_items c.loop-body.body-iterator) (into_iter_items c.next.new.self) c.in-Some.ensures.steps.0 (c.in_ok-push.ensures.items ∙ ap (λ m. c.loop-body.mails.items ++ m ∷ []) c.forward.ensures) c.loop-body.invariant.so_far;
  left = more_left c.loop-body.invariant.left c.in-Some.ensures.steps.0 c.in-Some.ensures.steps.1;
}
