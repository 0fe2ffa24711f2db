use Rattle.std.proofs.Common.{◌++◌, codes}
use Rattle.std.proofs.lemmas.Result.{on_ok_weaker}
use Rattle.kp_words.specs.Texts.{line, mode_text, hex_line, count_lines, server_text}
use Rattle.kp_words.proofs.Printed.{printed_onto}
use Rattle.kp_words.proofs.answers.print_server.Goals as goal

pub returns : goal.returns
unfolding server_text
returns c =
    let f = c.args.facts.now in
    let numbers = count_lines f.counts in
    let zxid = codes "Zxid: " ++ (hex_line f.log.applied ++ numbers) in
    let mode = codes "Mode: " ++ line (mode_text f.members f.role) in
    on_ok_weaker c.print_counts.result
    (λ e. printed_onto c.args.out.now.items (line (codes "Keeper version: 1")) (mode ++ zxid) c.in_ok-print_line.ensures (
    printed_onto c.print_line.new.out.items mode zxid c.in_ok-print_mode.ensures (
    printed_onto c.print_mode.new.out.items (codes "Zxid: ") (hex_line f.log.applied ++ numbers) c.in_ok-print.ensures (
    printed_onto c.print.new.out.items (hex_line f.log.applied) numbers c.in_ok-print_hex_line.ensures e))))
    c.print_counts.ensures
