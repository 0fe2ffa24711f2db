use Rattle.kp_shared.proofs.LawSteps as law
use Rattle.kp_shared.proofs.kept.dies_once.Goals as goal

pub returns : goal.returns
returns g c = law.dies_once g.K.Kept.moves g.K.Kept.stays g.K.Kept.keeps g.K.Kept.life
