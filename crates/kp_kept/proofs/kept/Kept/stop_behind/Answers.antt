use Rattle.std.proofs.Common.{List, Option, subst, take}
use Rattle.kp_entry.specs.declared.record.Record.{Record}
use Rattle.kp_snapshot.specs.Snapshots.{Snapshot}
use Rattle.kp_node.specs.Parts.{node_of}
use Rattle.kp_kept.specs.Tearing.{LeavesPart}
use Rattle.kp_kept.proofs.Readiness.{ready_of}
use Rattle.kp_kept.proofs.kept.Kept.stop_behind.Goals as goal

pub put_part-put-requires-clause-ready : goal.put_part-put-requires-clause-ready
put_part-put-requires-clause-ready g c = ready_of c.args.self.now.home.second (g.H.Disk.held c.args.self.now.home.disks.j0) (g.H.Disk.held c.args.self.now.home.disks.j1) c.args.self.now.home.journal (c.args.self.now.ready c.requires.alive)

pub returns-in-Ok-clause-crash : goal.returns-in-Ok-clause-crash
returns-in-Ok-clause-crash g c =
    subst (λ (i : Option Snapshot). LeavesPart g.H.Disk.held g.H.Disk.past c.args.self.now.home c.put_part-put.new.home i (take c.args.k c.args.records) (node_of c.args.self.now.node)) c.image_behind-image.ensures
    (subst (λ (rs : List Record). LeavesPart g.H.Disk.held g.H.Disk.past c.args.self.now.home c.put_part-put.new.home c.image_behind-image.result rs (node_of c.args.self.now.node)) c.shorten-kept.ensures.part c.in-Ok.ensures.crash)

pub returns-in-Err-clause-crash : goal.returns-in-Err-clause-crash
returns-in-Err-clause-crash g c =
    subst (λ (i : Option Snapshot). LeavesPart g.H.Disk.held g.H.Disk.past c.args.self.now.home c.put_part-put.new.home i (take c.args.k c.args.records) (node_of c.args.self.now.node)) c.image_behind-image.ensures
    (subst (λ (rs : List Record). LeavesPart g.H.Disk.held g.H.Disk.past c.args.self.now.home c.put_part-put.new.home c.image_behind-image.result rs (node_of c.args.self.now.node)) c.shorten-kept.ensures.part c.in-Err.ensures.crash)
