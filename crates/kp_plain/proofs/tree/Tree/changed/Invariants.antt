use Rattle.std.proofs.Common.{◌≡◌, drop}
use Rattle.kp_prep.specs.Changing.{set_all}
use Rattle.kp_plain.proofs.tree.Tree.changed.Given as goal

abbrev pub invariant-loop-change : goal.invariant-loop-change
invariant-loop-change l = set_all l.tree (drop l.change-index l.changes) ≡ set_all l.fn.self l.changes
