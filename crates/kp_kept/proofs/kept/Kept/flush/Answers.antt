use Rattle.kp_kept.specs.Keeping.{found_behind}
use Rattle.kp_kept.proofs.Found.{finds_it, finds_only}
use Rattle.kp_kept.proofs.kept.Kept.flush.Goals as goal

pub returns-in-Some-clause-crash : goal.returns-in-Some-clause-crash
returns-in-Some-clause-crash g c = λ f k room below. finds_it g.H.Disk.held g.H.Disk.past c.args.self.now.home.disks c.args.self.now.home.second c.args.self.now.home.journal f k.keeps (found_behind c.args.self.now f)

pub returns-clause-kept : goal.returns-clause-kept
returns-clause-kept g c = λ f k room below.
    finds_only g.H.Disk.held g.H.Disk.past c.keep_waiting.new.self.home.disks c.keep_waiting.new.self.home.second c.keep_waiting.new.self.home.journal (found_behind c.args.self.now f) (c.in_ok-keep_waiting.ensures.keeps f k room below).keeps
