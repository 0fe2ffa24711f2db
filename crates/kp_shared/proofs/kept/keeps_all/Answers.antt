use Rattle.kp_shared.proofs.LawSteps as law
use Rattle.kp_shared.proofs.kept.keeps_all.Goals as goal

pub returns : goal.returns
returns g c = law.keeps_all g.K.Kept.moves g.K.Kept.stays g.K.Kept.keeps g.K.Kept.life
