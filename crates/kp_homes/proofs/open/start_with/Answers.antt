use Rattle.kp_homes.specs.declared.fail.HomeFail.TheVariants as home_fail
use Rattle.kp_homes.specs.Stands.{with_more}
use Rattle.kp_homes.proofs.Beginning.{writing_starts, err_of, closed_either, closed_earlier, closed_rose}
use Rattle.kp_homes.proofs.Sound.{closed_sound}
use Rattle.kp_homes.proofs.open.start_with.Goals as goal

pub returns-in-Err-clause-crash : goal.returns-in-Err-clause-crash
returns-in-Err-clause-crash g c b v st room =
    closed_either g.H.Disk.past c.args.live.journal.head.node c.args.disks.moments c.append_records.new.self.disks c.close.result v (with_more c.args.records.now v) c.close.ensures (λ r. c.in-Err.ensures.crash b v st r) room

pub returns-in-Err-clause-earlier : goal.returns-in-Err-clause-earlier
returns-in-Err-clause-earlier g c b v st room = closed_earlier g.H.Disk.past c.args.disks c.append_records.new.self.disks c.close.result c.close.ensures (λ r. c.in-Err.ensures.earlier b v st r) room

pub returns-in-Err-clause-only : goal.returns-in-Err-clause-only
returns-in-Err-clause-only g c f e = writing_starts f (c.in-Err.ensures.only f (err_of c.in-Err.fail f e))

pub returns-in-Err-clause-full : goal.returns-in-Err-clause-full
returns-in-Err-clause-full g c slot len e = ((c.in-Err.ensures.full slot len).0 (err_of c.in-Err.fail (home_fail.Full slot len) e)).0

pub returns-in-Err-clause-fault : goal.returns-in-Err-clause-fault
returns-in-Err-clause-fault g c e = closed_rose g.H.Disk.faults c.args.disks c.append_records.new.self.disks c.close.result c.close.ensures (c.in-Err.ensures.fault (err_of c.in-Err.fail home_fail.DiskFault e))

pub returns-in-Err-clause-sound : goal.returns-in-Err-clause-sound
returns-in-Err-clause-sound g c b v st room = closed_sound g.H.Disk.held g.H.Disk.past c.append_records.new.self.disks c.close.result c.close.ensures (λ r. c.in-Err.ensures.sound b v st r) room
