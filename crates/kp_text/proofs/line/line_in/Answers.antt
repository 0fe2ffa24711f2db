use Rattle.std.proofs.Common.{sym}
use Rattle.kp_text.proofs.LineWords.{no_line, text_line}
use Rattle.kp_text.proofs.Shaped.{refused}
use Rattle.kp_text.proofs.line.line_in.Goals as goal

pub returns-in-Err : goal.returns-in-Err
returns-in-Err c = sym (no_line c.args.text.now c.in-Err.ensures.cases.0)

pub returns-then-not-may_be_a_line : goal.returns-then-not-may_be_a_line
returns-then-not-may_be_a_line c = refused c.args.text.now c.in-Ok.line.now c.may_be_a_line.result c.in-Ok.ensures.cases.0 c.may_be_a_line.ensures c.if-not-may_be_a_line.true

pub returns-in_ok-words-in-Ok : goal.returns-in_ok-words-in-Ok
returns-in_ok-words-in-Ok c =
    rw (text_line c.args.text.now c.in-Ok.ensures.cases.1, ← c.in-Ok.ensures.cases.0, ← c.in_ok-words-in-Ok.ensures, ← c.as_slice.ensures.value) c.of_words.ensures
