use Rattle.std.specs.Prelude.{◌≡◌, drop}
use Rattle.kp_step.specs.Step.{swept}
use Rattle.kp_node.specs.Changing.{AreKeptBut}
use Rattle.kp_node.proofs.changing.sweep.Given as goal

abbrev pub invariant-loop-conn : goal.invariant-loop-conn
invariant-loop-conn l = (swept l.seats.seats l.watches ≡ swept l.seats.seats l.fn.watches) × AreKeptBut (drop l.conn-index l.conns) l.seats.seats l.watches
