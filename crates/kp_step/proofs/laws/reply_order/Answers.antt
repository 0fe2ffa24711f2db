use Rattle.kp_step.proofs.Lawful.{replies_are_in_order}
use Rattle.kp_step.proofs.laws.reply_order.Goals as goal

pub returns : goal.returns
returns g c = replies_are_in_order g.row.I.Denot
