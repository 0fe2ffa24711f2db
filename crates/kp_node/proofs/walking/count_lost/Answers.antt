use Rattle.std.proofs.Common.{◌∙◌, ap}
use Rattle.kp_node.proofs.Walked.{lost_among, lost_of_all, counted_all}
use Rattle.kp_node.proofs.walking.count_lost.Goals as goal

pub returns : goal.returns
returns c = counted_all c.args.seats.now.seats c.loop-next.conn c.loop-next.lost c.loop-next.invariant.0 c.loop-next.invariant.1 c.in_default.ensures.list ∙ ap (lost_among c.args.seats.now.seats) c.in_default.ensures.all ∙ lost_of_all c.args.seats.now.seats
