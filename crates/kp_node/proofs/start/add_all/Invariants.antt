use Rattle.std.proofs.Common.{◌≡◌, ◌++◌, take}
use Rattle.kp_node.proofs.start.add_all.Given as goal

abbrev pub invariant-loop-entry : goal.invariant-loop-entry
invariant-loop-entry l = l.storage ≡ record l.fn.storage { unapplied = l.fn.storage.unapplied ++ take l.entry-index l.entries }
