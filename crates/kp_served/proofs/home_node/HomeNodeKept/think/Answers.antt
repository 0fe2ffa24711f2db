use Rattle.kp_served.proofs.HomeCalls.{thinks}
use Rattle.kp_served.proofs.home_node.HomeNodeKept.think.Goals as goal

pub returns : goal.returns
returns g c = let e = c.think.ensures in
    thinks g.H.Disk.held g.H.Disk.past g.H.Disk.faults c.args.self.now (record { kept = c.think.new.self }) c.args.event c.think.result e.moves e.alive e.number e.fits e.home e.death e.kept e.err e.dead e.only e.keeps
