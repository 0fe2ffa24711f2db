use Rattle.kp_served.proofs.HomeCalls.{flushes}
use Rattle.kp_served.proofs.home_node.HomeNodeKept.flush.Goals as goal

pub returns : goal.returns
returns g c = let e = c.flush.ensures in
    flushes g.H.Disk.held g.H.Disk.past g.H.Disk.faults c.args.self.now (record { kept = c.flush.new.self }) c.flush.result e.flushes e.none_waits e.all_wait e.keeps e.kept e.crash
