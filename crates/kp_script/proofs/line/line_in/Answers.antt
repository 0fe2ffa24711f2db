use Rattle.std.proofs.Common.{sym}
use Rattle.kp_script.proofs.LineTexts.{no_line, text_line}
use Rattle.kp_script.proofs.line.line_in.Goals as goal

pub returns-in-Err : goal.returns-in-Err
returns-in-Err c = sym (no_line c.args.nodes c.args.text.now c.in-Err.ensures.cases.0)

pub returns-in_ok-words-in-Ok : goal.returns-in_ok-words-in-Ok
returns-in_ok-words-in-Ok c =
    rw (text_line c.args.nodes c.args.text.now c.in-Ok.ensures.cases.1, ← c.in-Ok.ensures.cases.0, ← c.in_ok-words-in-Ok.ensures, ← c.as_slice.ensures.value) c.of_words.ensures
