use Rattle.std.proofs.Common.{take}
use Rattle.std.specs.FinMap as map
use Rattle.kp_snapshot.specs.Images.{node_behind, spell_node}
use Rattle.kp_snapshot.specs.Knowing.{Stand}
use Rattle.kp_snapshot.specs.Written.{WroteRows}
use Rattle.kp_snapshot.proofs.put_nodes.put_each.Given as goal

-- the trail is that of the nodes of the paths so far, and these are written
abbrev pub invariant-loop-path : goal.invariant-loop-path
invariant-loop-path g l = Stand (take l.path-index (map.entries (g.V.View.state l.view).nodes)) l.trail.last.now l.trail.ups.items
    × WroteRows spell_node (node_behind l.index l.ids) (take l.path-index (map.entries (g.V.View.state l.view).nodes)) l.fn.out.items l.out.items
