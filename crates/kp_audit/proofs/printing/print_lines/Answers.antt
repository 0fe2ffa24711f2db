use Rattle.std.proofs.lemmas.Result.{on_ok_weaker}
use Rattle.kp_audit.proofs.Telling.{lines_told}
use Rattle.kp_audit.proofs.printing.print_lines.Goals as goal

pub returns : goal.returns
returns c =
    on_ok_weaker c.print_counts.result (λ e. lines_told c.args.slot.now _ _ c.args.out.now.items c.print_line.new.out.items c.print_counts.new.out.items c.in_ok-last.ensures.last c.in_ok-last.ensures.counts c.in_ok-print_line.ensures e)
    c.print_counts.ensures
