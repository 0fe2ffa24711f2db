use Rattle.std.proofs.Common.{sym, ◌∙◌, arith}
use Rattle.std.proofs.lemmas.Bool.Decides.{nat_tests}
use Rattle.kp_top.proofs.LineSplits.{split_some, split_none, split_nothing}
use Rattle.kp_top.proofs.input_lines.next_line.Goals as goal

pub returns-then-is_empty : goal.returns-then-is_empty
returns-then-is_empty c = split_nothing c.args.text.now (grind (arith, nat_tests))

pub returns-in-Some : goal.returns-in-Some
returns-in-Some c = split_some c.args.text.now c.in-Some.at (sym c.first_feed.ensures ∙ c.in-Some.is)

pub returns-in-None : goal.returns-in-None
returns-in-None c = (split_none c.args.text.now (grind (arith, nat_tests)) (sym c.first_feed.ensures ∙ c.in-None.is), grind (arith, nat_tests))
