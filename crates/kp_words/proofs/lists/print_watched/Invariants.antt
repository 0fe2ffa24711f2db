use Rattle.std.proofs.Common.{◌≡◌, ◌++◌, drop}
use Rattle.std.specs.List.{flat_map}
use Rattle.kp_words.specs.Texts.{watched_path}
use Rattle.kp_words.proofs.lists.print_watched.Given as goal

abbrev pub invariant-loop-path : goal.invariant-loop-path
invariant-loop-path l = l.out.items ++ flat_map watched_path (drop l.path-index l.watched) ≡ l.fn.out.items ++ flat_map watched_path l.watched
