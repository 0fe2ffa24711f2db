use Rattle.kp_node.proofs.Applies.{swapped_there}
use Rattle.kp_node.proofs.guests.seat_guest.Goals as goal

pub join_some-requires-clause-there : goal.join_some-requires-clause-there
join_some-requires-clause-there c = swapped_there c.args.seats.now c.swap_conn-blank.new.seats c.args.guest.number _ c.swap_conn-blank.ensures.seats c.requires.there
