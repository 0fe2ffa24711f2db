use Rattle.std.proofs.Common.{◌≡◌, ℕ}
use Rattle.kp_lines.specs.Tables.{state_at}
use Rattle.kp_sockets.proofs.waking.flow_all.Given as goal

abbrev pub invariant-loop-conn : goal.invariant-loop-conn
invariant-loop-conn l =
    ((c : ℕ) → state_at l.table.slots c ≡ state_at l.fn.table.slots c)
    × (l.table.fresh ≡ l.fn.table.fresh)
