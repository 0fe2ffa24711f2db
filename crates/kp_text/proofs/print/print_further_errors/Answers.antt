use Rattle.std.proofs.Common.{◌++◌, refl}
use Rattle.kp_text.specs.Texts.{errors_text, error_text}
use Rattle.kp_text.proofs.Prints.{printed_all}
use Rattle.kp_text.proofs.print.print_further_errors.Goals as goal
use lib.Chars.{codes}

pub returns : goal.returns
returns c =
    printed_all (λ x. codes " | " ++ error_text x) (errors_text) (refl, λ _ _. refl) c.loop-code.out.items (c.args.out.now.items ++ errors_text c.args.errors.now) c.args.errors.now c.loop-code.code-index c.loop-code-test.false c.loop-code.invariant
