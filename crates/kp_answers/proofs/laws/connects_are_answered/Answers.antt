use Rattle.kp_answers.proofs.Asked.{refused_by_number, connects_are_answered}
use Rattle.kp_answers.proofs.laws.connects_are_answered.Goals as goal

pub returns-clause-numbers : goal.returns-clause-numbers
returns-clause-numbers g c = refused_by_number

pub returns-clause-answers : goal.returns-clause-answers
returns-clause-answers g c = connects_are_answered g.row.I.Denot
