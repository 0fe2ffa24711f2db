use Rattle.std.proofs.Common.{take}
use Rattle.kp_node.specs.Parts.{node_of}
use Rattle.kp_kept.specs.Tearing.{part_found, part_image}
use Rattle.kp_kept.proofs.Found.{finds_it}
use Rattle.kp_kept.proofs.kept.Kept.keep_first.Goals as goal

pub returns-then-is_void-clause-crash : goal.returns-then-is_void-clause-crash
returns-then-is_void-clause-crash g c = λ f had room below fits.
    finds_it g.H.Disk.held g.H.Disk.past c.args.self.now.home.disks c.args.self.now.home.second c.args.self.now.home.journal f had
    (part_found (part_image c.args.k c.args.outcome.records c.args.outcome.image) (take c.args.k c.args.outcome.records) f (node_of c.args.self.now.node))
