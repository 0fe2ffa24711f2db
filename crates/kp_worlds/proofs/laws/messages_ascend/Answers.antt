use Rattle.kp_worlds.proofs.Ascending.{messages_ascend}
use Rattle.kp_worlds.proofs.laws.messages_ascend.Goals as goal

pub returns : goal.returns
returns g c = messages_ascend g.row.I.Denot
