use Rattle.kp_kept.proofs.Opened.{room_for}
use Rattle.kp_kept.proofs.Readiness.{may_of}
use Rattle.kp_kept.proofs.opening.start.Goals as goal

pub start-started-requires-clause-last : goal.start-started-requires-clause-last
start-started-requires-clause-last g c = room_for c.args.kept c.stored_of-stored.result c.stored_of-stored.ensures c.requires.room

pub invariant_of-result-clause-ready : goal.invariant_of-result-clause-ready
invariant_of-result-clause-ready g c = λ none. may_of c.args.home.second (g.H.Disk.held c.args.home.disks.j0) (g.H.Disk.held c.args.home.disks.j1) c.args.home.journal c.requires.ready
