use Rattle.std.proofs.Common.{ℕ, List, ◌++◌, codes}
use Rattle.std.specs.Fmt.{decimal}
use Rattle.std.proofs.lemmas.Result.{on_ok_weaker}
use Rattle.kp_words.specs.Texts.{conn_line, hex_text, number_line}
use Rattle.kp_words.proofs.Printed.{printed_onto}
use Rattle.kp_words.proofs.lines.print_conn.Goals as goal

pub returns : goal.returns
unfolding conn_line
returns c =
    on_ok_weaker c.print_number_line.result
    (λ e. (printed_onto c.args.out.now.items (codes " ") (decimal c.args.conn.now.number ++ behind_number) c.in_ok-print.ensures
    (printed_onto c.print.new.out.items (decimal c.args.conn.now.number) behind_number c.in_ok-print_number.ensures
    (printed_onto c.print_number.new.out.items (codes " session=") behind_session c.in_ok-print-2.ensures
    (printed_onto c.print-2.new.out.items (hex_text c.args.conn.now.session) waiting c.in_ok-print_hex.ensures
    (printed_onto c.print_hex.new.out.items (codes " waiting=") (number_line c.args.conn.now.waiting) c.in_ok-print-3.ensures
    e))))))
    c.print_number_line.ensures
  where
    waiting : List ℕ
    waiting = codes " waiting=" ++ number_line c.args.conn.now.waiting

    behind_session : List ℕ
    behind_session = hex_text c.args.conn.now.session ++ waiting

    behind_number : List ℕ
    behind_number = codes " session=" ++ behind_session
