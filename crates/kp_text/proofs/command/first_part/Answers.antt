use Rattle.std.proofs.Common.{◌∙◌, sym}
use Rattle.kp_text.proofs.MultiSteps.{no_more_parts, next_parts}
use Rattle.kp_text.proofs.command.first_part.Goals as goal

pub returns-in-None-clause-parts : goal.returns-in-None-clause-parts
returns-in-None-clause-parts c = no_more_parts c.args.words.now (sym c.first_separator.ensures ∙ c.in-None.is)

pub returns-in-Some-clause-parts : goal.returns-in-Some-clause-parts
returns-in-Some-clause-parts c = next_parts c.args.words.now c.in-Some.at (sym c.first_separator.ensures ∙ c.in-Some.is)
