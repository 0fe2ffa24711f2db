use Rattle.std.proofs.Common.{◌≡◌, ℕ, List, take}
use Rattle.std.specs.FinMap.{get}
use Rattle.kp_cells.specs.Naming.{IsNaming}
use Rattle.kp_cells.specs.Traced.{left, uses}
use Rattle.kp_cells.proofs.nodes.release.Given as goal

abbrev pub invariant-loop-number : goal.invariant-loop-number
invariant-loop-number l =
    ((p : List ℕ) → get l.names.numbers p ≡ left (uses l.nodes.metas l.nodes.contents l.nodes.acls l.nodes.children l.nodes.owners) (take l.number-index l.numbers) (get l.initial.names.numbers p))
    × IsNaming l.names
