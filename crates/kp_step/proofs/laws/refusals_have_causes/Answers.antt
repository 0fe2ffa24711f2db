use Rattle.kp_step.proofs.Causes.{refusals_are_caused}
use Rattle.kp_step.proofs.laws.refusals_have_causes.Goals as goal

pub returns : goal.returns
returns g c = refusals_are_caused g.row.I.Denot
