use Rattle.std.proofs.Common.{◌+◌, ◌++◌, codes}
use Rattle.std.proofs.lemmas.Result.{on_ok_weaker}
use Rattle.kp_words.specs.Texts.{log_text, tabbed}
use Rattle.kp_words.proofs.Printed.{printed_onto}
use Rattle.kp_words.proofs.answers.print_log.Goals as goal

pub returns : goal.returns
unfolding log_text
returns c =
    on_ok_weaker c.print_tabbed-4.result
    (λ e. (printed_onto c.args.out.now.items (tabbed (codes "first_log_idx") (c.args.log.now.base + 1)) (tabbed (codes "last_log_idx") c.args.log.now.last ++ (tabbed (codes "last_log_term") c.args.log.now.last_term ++ (tabbed (codes "last_committed_log_idx") c.args.log.now.commit))) c.in_ok-print_tabbed.ensures
    (printed_onto c.print_tabbed.new.out.items (tabbed (codes "last_log_idx") c.args.log.now.last) (tabbed (codes "last_log_term") c.args.log.now.last_term ++ (tabbed (codes "last_committed_log_idx") c.args.log.now.commit)) c.in_ok-print_tabbed-2.ensures
    (printed_onto c.print_tabbed-2.new.out.items (tabbed (codes "last_log_term") c.args.log.now.last_term) (tabbed (codes "last_committed_log_idx") c.args.log.now.commit) c.in_ok-print_tabbed-3.ensures
    e))))
    c.print_tabbed-4.ensures
