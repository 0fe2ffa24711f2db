use Rattle.kp_answers.proofs.Wholes.{refusals_are_whole}
use Rattle.kp_answers.proofs.laws.refusals_are_whole.Goals as goal

pub returns : goal.returns
returns g c = refusals_are_whole g.row.I.Denot
