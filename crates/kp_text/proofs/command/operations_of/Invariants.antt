use Rattle.std.proofs.Common.{◌≡◌, ◌++◌, map}
use Rattle.std.specs.Option.{option_map}
use Rattle.std.specs.List.{slice_split}
use Rattle.kp_text.specs.Commands.{is_separator, operations_of}
use Rattle.kp_text.specs.WordParts.{parts_left, left_len}
use Rattle.kp_text.proofs.command.operations_of.Given as goal

abbrev pub invariant-loop-rest : goal.invariant-loop-rest
invariant-loop-rest l = option_map (λ more. l.operations ++ more) (operations_of (parts_left l.rest)) ≡ operations_of (slice_split is_separator (map (λ x. x.now) l.words))

abbrev pub decreases-loop-rest : goal.decreases-loop-rest
decreases-loop-rest l = left_len l.rest
