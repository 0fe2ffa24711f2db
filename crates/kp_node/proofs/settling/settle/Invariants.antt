-- as many requests are left as turns, each luck from here on is one from the beginning, and the connection wasn't given up
use Rattle.std.specs.Prelude.{◌≡◌, ◌+◌, length}
use Rattle.kp_node.specs.Deciding.{LeadsOn}
use Rattle.kp_node.proofs.settling.settle.Given as goal

abbrev pub invariant-loop-turn : goal.invariant-loop-turn
invariant-loop-turn g l = (length l.conn.queue + l.turn ≡ length l.fn.conn.queue) × (l.conn.phase ≡ l.fn.conn.phase) × LeadsOn (g.V.View.state l.view) l.number l.fn.watches l.fn.conn l.watches l.conn
