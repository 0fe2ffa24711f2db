use Rattle.kp_answers.proofs.Endings.{ends_are_caused}
use Rattle.kp_answers.proofs.laws.ends_are_caused.Goals as goal

pub returns : goal.returns
returns g c = ends_are_caused g.row.I.Denot
