use Rattle.std.proofs.Common.{◌++◌, codes}
use Rattle.std.proofs.lemmas.Result.{on_ok_weaker}
use Rattle.kp_words.specs.Texts.{count_lines, number_line}
use Rattle.kp_words.proofs.Printed.{printed_onto}
use Rattle.kp_words.proofs.answers.print_counts.Goals as goal

pub returns : goal.returns
unfolding count_lines
returns c =
    on_ok_weaker c.print_named-4.result
    (λ e. (printed_onto c.args.out.now.items (codes "Node count: " ++ number_line c.args.counts.now.nodes) (codes "Connections: " ++ number_line c.args.counts.now.connections ++ (codes "Sessions: " ++ number_line c.args.counts.now.sessions ++ (codes "Watches: " ++ number_line c.args.counts.now.watches))) c.in_ok-print_named.ensures
    (printed_onto c.print_named.new.out.items (codes "Connections: " ++ number_line c.args.counts.now.connections) (codes "Sessions: " ++ number_line c.args.counts.now.sessions ++ (codes "Watches: " ++ number_line c.args.counts.now.watches)) c.in_ok-print_named-2.ensures
    (printed_onto c.print_named-2.new.out.items (codes "Sessions: " ++ number_line c.args.counts.now.sessions) (codes "Watches: " ++ number_line c.args.counts.now.watches) c.in_ok-print_named-3.ensures
    e))))
    c.print_named-4.ensures
