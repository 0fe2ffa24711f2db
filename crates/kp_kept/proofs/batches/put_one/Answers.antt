use Rattle.kp_io.specs.Homes.{home_faults}
use Rattle.kp_homes.specs.declared.home.Home.{Home}
use Rattle.kp_kept.proofs.Found.{batch_had, costs_so, slot_small}
use Rattle.kp_kept.proofs.batches.put_one.Goals as goal

pub returns-clause-keeps : goal.returns-clause-keeps
returns-clause-keeps g c = batch_had g.H.Disk.held g.H.Disk.past c.args.home.now c.append_batch.new.self c.args.records.now c.append_batch.result c.append_batch.ensures.keeps

pub returns-clause-full : goal.returns-clause-full
returns-clause-full g c = c.append_batch.ensures.full

pub returns-clause-costs : goal.returns-clause-costs
returns-clause-costs g c = costs_so (λ (h : Home g.row.H.Denot). home_faults g.H.Disk.faults h.disks) c.args.home.now c.append_batch.new.self c.append_batch.result c.append_batch.ensures.quiet c.append_batch.ensures.fault c.append_batch.ensures.full_same
    (λ slot len e. let f = (c.append_batch.ensures.full slot len).0 e in (slot_small c.args.home.now.second slot f.2, f.0)) c.append_batch.ensures.only
