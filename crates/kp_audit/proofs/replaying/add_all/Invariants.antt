use Rattle.std.proofs.Common.{◌≡◌, take}
use Rattle.kp_audit.specs.Texts.{with_all}
use Rattle.kp_audit.proofs.replaying.add_all.Given as goal

abbrev pub invariant-loop-entry : goal.invariant-loop-entry
invariant-loop-entry l = l.store ≡ with_all l.initial.store (take l.entry-index l.entries)
