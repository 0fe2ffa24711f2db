use Rattle.std.proofs.Common.{◌∙◌}
use Rattle.kp_watch.specs.Watching.{set_again}
use Rattle.kp_node.proofs.Deciding.{set_again_is}
use Rattle.kp_node.proofs.answering.set_anew.Goals as goal

pub returns-clause-ok : goal.returns-clause-ok
returns-clause-ok g c = let nodes = (g.V.View.state c.args.view.now).nodes in (
  set_again_is c.args.conn c.in_ok-events.events (set_again c.args.watches.now nodes c.args.conn c.args.since c.args.contents.now c.args.exist.now c.args.child.now)
      (c.in_ok-events.ensures.told ∙ λ i. (set_again c.args.watches.now nodes c.args.conn c.args.since (c.as_slice.ensures i) (c.as_slice-2.ensures i) (c.as_slice-3.ensures i)).pairs),
  c.in_ok-events.ensures.left ∙ λ i. (set_again c.args.watches.now nodes c.args.conn c.args.since (c.as_slice.ensures i) (c.as_slice-2.ensures i) (c.as_slice-3.ensures i)).left,
)
