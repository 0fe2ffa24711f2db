use Rattle.std.proofs.Common.{◌++◌}
use Rattle.std.specs.List.{flat_map}
use Rattle.kp_words.specs.Texts.{session_line}
use Rattle.kp_words.proofs.Printed.{printed_next, printed_all}
use Rattle.kp_words.proofs.lists.print_sessions.Goals as goal

pub loop-session-preserved : goal.loop-session-preserved
loop-session-preserved c =
    printed_next (session_line c.args.before.now) c.loop-session.out.items c.print_session.new.out.items (c.args.out.now.items ++ flat_map (session_line c.args.before.now) c.args.sessions.now) c.args.sessions.now c.loop-session.session-index _
    c.loop-session-test.true c.in_ok-print_session.ensures c.loop-session.invariant

pub returns : goal.returns
returns c =
    printed_all (session_line c.args.before.now) c.loop-session.out.items (c.args.out.now.items ++ flat_map (session_line c.args.before.now) c.args.sessions.now) c.args.sessions.now c.loop-session.session-index c.loop-session-test.false c.loop-session.invariant
