use Rattle.std.proofs.Common.{inl, refl}
use Rattle.kp_kept.proofs.Found.{finds_it}
use Rattle.kp_kept.proofs.kept.Kept.torn.Goals as goal

pub returns-in-Some-clause-crash : goal.returns-in-Some-clause-crash
returns-in-Some-clause-crash g c = λ f k room below. (f, inl refl, finds_it g.H.Disk.held g.H.Disk.past c.args.self.now.home.disks c.args.self.now.home.second c.args.self.now.home.journal f k.keeps f)
