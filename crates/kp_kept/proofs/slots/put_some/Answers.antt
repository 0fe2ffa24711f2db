use Rattle.kp_homes.specs.Opening.{with_records}
use Rattle.kp_kept.proofs.Found.{finds_it}
use Rattle.kp_kept.proofs.slots.put_some.Goals as goal

pub returns-then-len-eq0-clause-crash : goal.returns-then-len-eq0-clause-crash
returns-then-len-eq0-clause-crash g c = λ f had room fits. finds_it g.H.Disk.held g.H.Disk.past c.args.home.now.disks c.args.home.now.second c.args.home.now.journal f had (with_records c.args.records.now f)
