use Rattle.kp_step.proofs.Lawful.{answers_are_of_one_state}
use Rattle.kp_step.proofs.laws.answers_show_one_state.Goals as goal

pub returns : goal.returns
returns g c = answers_are_of_one_state g.row.I.Denot
