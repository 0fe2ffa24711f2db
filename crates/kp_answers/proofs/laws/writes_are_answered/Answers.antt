use Rattle.kp_answers.proofs.WhenceSteps.{writes_are_answered}
use Rattle.kp_answers.proofs.laws.writes_are_answered.Goals as goal

pub returns : goal.returns
returns g c = writes_are_answered g.row.I.Denot
