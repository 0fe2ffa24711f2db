use Rattle.std.specs.Prelude.{◌≡◌, ◌≤◌, take, length}
use Rattle.kp_node.specs.Changing.{lost_among}
use Rattle.kp_node.proofs.changing.count_lost.Given as goal

abbrev pub invariant-loop-conn : goal.invariant-loop-conn
invariant-loop-conn l = (l.lost ≡ length (lost_among l.seats.seats (take l.conn-index l.conns))) × (l.lost ≤ l.conn-index)
