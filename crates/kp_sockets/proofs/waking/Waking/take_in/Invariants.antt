use Rattle.std.proofs.Common.{◌≡◌, ◌≤◌, ℕ, length}
use Rattle.kp_lines.specs.Tables.{state_at}
use Rattle.kp_sockets.proofs.waking.Waking.take_in.Given as goal

abbrev pub invariant-loop : goal.invariant-loop
invariant-loop g l =
    (l.self.faults ≡ l.fn.self.faults)
    × ((c : ℕ) → state_at l.table.slots c ≡ state_at l.fn.table.slots c)
    × (length l.draws.items ≤ length l.table.fresh.items)
