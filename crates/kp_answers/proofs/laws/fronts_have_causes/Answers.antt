use Rattle.kp_answers.proofs.Fronts.{fronts_have_causes, fronts_are_answered}
use Rattle.kp_answers.proofs.laws.fronts_have_causes.Goals as goal

pub returns-clause-causes : goal.returns-clause-causes
returns-clause-causes c = fronts_have_causes

pub returns-clause-answers : goal.returns-clause-answers
returns-clause-answers c = fronts_are_answered
