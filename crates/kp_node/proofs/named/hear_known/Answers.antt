use Rattle.std.proofs.Common.{arith, ◌≤◌, ◌<◌, length, ◌∙◌}
use Rattle.kp_node.proofs.Known.{hears_on, heard_at_end, has_at}
use Rattle.kp_node.proofs.named.hear_known.Goals as goal

pub loop-session-preserved : goal.loop-session-preserved
loop-session-preserved g c = hears_on c.args.now (g.V.View.state c.args.view.now) c.args.sessions.now c.args.expiry.now c.loop-session.expiry c.hear_one.new.expiry c.loop-session.session-index c.loop-session-test.true c.loop-session.invariant c.hear_one.ensures

pub returns : goal.returns
returns g c = heard_at_end c.args.now (g.V.View.state c.args.view.now) c.args.sessions.now c.args.expiry.now c.loop-session.expiry c.loop-session.expiry c.loop-session.session-index (omega (arith, c.loop-session-test.false)) c.loop-session.invariant.1
