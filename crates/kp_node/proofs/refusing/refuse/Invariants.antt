-- as many requests are left as turns, and each luck from here on is one from the beginning
use Rattle.std.specs.Prelude.{◌≡◌, ◌+◌, length}
use Rattle.kp_node.specs.Refusing.{RefusesOn}
use Rattle.kp_node.proofs.refusing.refuse.Given as goal

abbrev pub invariant-loop-turn : goal.invariant-loop-turn
invariant-loop-turn l = (length l.conn.queue + l.turn ≡ length l.fn.conn.queue) × RefusesOn l.zxid l.refusal l.fn.conn l.conn
