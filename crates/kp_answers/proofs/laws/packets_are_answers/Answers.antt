use Rattle.kp_answers.proofs.Packets.{packets_are_answers}
use Rattle.kp_answers.proofs.laws.packets_are_answers.Goals as goal

pub returns : goal.returns
returns g c = packets_are_answers g.row.I.Denot
