use Rattle.std.proofs.Common.{◌≡◌, ◌++◌, drop}
use Rattle.kp_text.specs.Texts.{names_text}
use Rattle.kp_text.proofs.print.write_names.Given as goal

abbrev pub invariant-loop-name : goal.invariant-loop-name
invariant-loop-name l = l.out.items ++ names_text (drop l.name-index l.names) ≡ l.fn.out.items ++ names_text l.names
