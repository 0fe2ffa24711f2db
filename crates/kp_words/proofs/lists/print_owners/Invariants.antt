use Rattle.std.proofs.Common.{◌≡◌, ◌++◌, drop}
use Rattle.std.specs.List.{flat_map}
use Rattle.kp_words.specs.Texts.{session_paths}
use Rattle.kp_words.proofs.lists.print_owners.Given as goal

abbrev pub invariant-loop-owner : goal.invariant-loop-owner
invariant-loop-owner l = l.out.items ++ flat_map session_paths (drop l.owner-index l.owners) ≡ l.fn.out.items ++ flat_map session_paths l.owners
