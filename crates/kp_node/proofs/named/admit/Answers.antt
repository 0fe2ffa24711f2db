use Rattle.std.proofs.Common.{arith, ◌≤◌, ◌<◌, length, ◌∙◌, ap}
use Rattle.kp_node.specs.Named.{forgotten}
use Rattle.kp_node.proofs.Known.{goes_at, forgets, admitted_all}
use Rattle.kp_node.proofs.named.admit.Goals as goal

pub loop-session-preserved : goal.loop-session-preserved
loop-session-preserved g c = goes_at _ c.args.sessions.now c.args.expiry.now _ _ _ _ c.loop-session.session-index c.loop-session-test.true c.loop-session.invariant c.in-Ok.ensures.ok

pub returns-in-Err-clause-err : goal.returns-in-Err-clause-err
returns-in-Err-clause-err g c = forgets _ c.args.sessions.now c.args.expiry.now c.loop-session.list.items _ c.loop-session.expiry _ _ _ c.loop-session.invariant c.in-Err.ensures.err c.in-Err.ensures.err_list (c.forget.ensures ∙ ap (forgotten c.admit_one.new.expiry) c.deref.ensures.value)

pub returns-clause-ok : goal.returns-clause-ok
returns-clause-ok g c = admitted_all _ c.args.sessions.now c.args.expiry.now c.loop-session.list.items c.loop-session.expiry c.loop-session.session-index (omega (arith, c.loop-session-test.false)) c.loop-session.invariant
