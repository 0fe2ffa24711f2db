use Rattle.std.specs.Prelude.{◌≡◌, take}
use Rattle.kp_node.specs.Deciding.{with_events}
use Rattle.kp_node.proofs.settling.put_events.Given as goal

abbrev pub invariant-loop-done : goal.invariant-loop-done
invariant-loop-done l = l.conn ≡ with_events (take l.done l.events) l.fn.conn
