use Rattle.std.proofs.Common.{◌++◌}
use Rattle.std.specs.List.{flat_map}
use Rattle.kp_words.specs.Texts.{conn_line}
use Rattle.kp_words.proofs.Printed.{printed_next, printed_all}
use Rattle.kp_words.proofs.lists.print_conns.Goals as goal

pub loop-conn-preserved : goal.loop-conn-preserved
loop-conn-preserved c =
    printed_next conn_line c.loop-conn.out.items c.print_conn.new.out.items (c.args.out.now.items ++ flat_map conn_line c.args.conns.now) c.args.conns.now c.loop-conn.conn-index _
    c.loop-conn-test.true c.in_ok-print_conn.ensures c.loop-conn.invariant

pub returns : goal.returns
returns c =
    printed_all conn_line c.loop-conn.out.items (c.args.out.now.items ++ flat_map conn_line c.args.conns.now) c.args.conns.now c.loop-conn.conn-index c.loop-conn-test.false c.loop-conn.invariant
