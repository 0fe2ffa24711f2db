use Rattle.std.proofs.Common.{◌≡◌, ◌++◌, drop}
use Rattle.kp_text.specs.Texts.{errors_text}
use Rattle.kp_text.proofs.print.print_further_errors.Given as goal

abbrev pub invariant-loop-code : goal.invariant-loop-code
invariant-loop-code l = l.out.items ++ errors_text (drop l.code-index l.errors) ≡ l.fn.out.items ++ errors_text l.errors
