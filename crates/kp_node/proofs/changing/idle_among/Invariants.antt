use Rattle.std.specs.Prelude.{◌≡◌, take}
use Rattle.kp_node.specs.Changing.{idle_among}
use Rattle.kp_node.proofs.changing.idle_among.Given as goal

abbrev pub invariant-loop-conn : goal.invariant-loop-conn
invariant-loop-conn l = l.idle.items ≡ idle_among l.seats.seats (take l.conn-index l.conns)
