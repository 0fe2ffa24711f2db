use Rattle.std.proofs.Common.{◌++◌, codes}
use Rattle.std.proofs.lemmas.Result.{on_ok_weaker}
use Rattle.kp_words.specs.Texts.{monitored, tabbed}
use Rattle.kp_words.proofs.Printed.{printed_onto}
use Rattle.kp_words.proofs.answers.print_monitored.Goals as goal

pub returns : goal.returns
unfolding monitored
returns c =
    on_ok_weaker c.print_tabbed-5.result
    (λ e. (printed_onto c.args.out.now.items (tabbed (codes "zk_znode_count") c.args.counts.now.nodes) (tabbed (codes "zk_ephemerals_count") c.args.counts.now.ephemerals ++ (tabbed (codes "zk_watch_count") c.args.counts.now.watches ++ (tabbed (codes "zk_num_alive_connections") c.args.counts.now.connections ++ (tabbed (codes "zk_approximate_data_size") c.args.counts.now.size)))) c.in_ok-print_tabbed.ensures
    (printed_onto c.print_tabbed.new.out.items (tabbed (codes "zk_ephemerals_count") c.args.counts.now.ephemerals) (tabbed (codes "zk_watch_count") c.args.counts.now.watches ++ (tabbed (codes "zk_num_alive_connections") c.args.counts.now.connections ++ (tabbed (codes "zk_approximate_data_size") c.args.counts.now.size))) c.in_ok-print_tabbed-2.ensures
    (printed_onto c.print_tabbed-2.new.out.items (tabbed (codes "zk_watch_count") c.args.counts.now.watches) (tabbed (codes "zk_num_alive_connections") c.args.counts.now.connections ++ (tabbed (codes "zk_approximate_data_size") c.args.counts.now.size)) c.in_ok-print_tabbed-3.ensures
    (printed_onto c.print_tabbed-3.new.out.items (tabbed (codes "zk_num_alive_connections") c.args.counts.now.connections) (tabbed (codes "zk_approximate_data_size") c.args.counts.now.size) c.in_ok-print_tabbed-4.ensures
    e)))))
    c.print_tabbed-5.ensures
