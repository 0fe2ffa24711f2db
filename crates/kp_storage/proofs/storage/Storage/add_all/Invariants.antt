use Rattle.std.proofs.Common.{◌≡◌, take}
use Rattle.kp_storage.specs.Kept.{with_all}
use Rattle.kp_storage.proofs.storage.Storage.add_all.Given as goal

abbrev pub invariant-loop-entry : goal.invariant-loop-entry
invariant-loop-entry l = l.self ≡ with_all l.initial.self (take l.entry-index l.entries)
