use Rattle.std.proofs.Common.{◌≡◌, take}
use Rattle.kp_raft.proofs.raft.log_of.Given as goal

abbrev pub invariant-loop-entry : goal.invariant-loop-entry
invariant-loop-entry l = l.log ≡ record { base = l.fn.base.0; base_term = l.fn.base.1; entries = take l.entry-index l.list }
