use Rattle.std.proofs.Common.{◌≡◌, ◌-◌, length}
use Rattle.kp_storage.proofs.Replay.{shortened}
use Rattle.kp_storage.proofs.storage.Storage.truncate.Given as goal

abbrev pub invariant-loop : goal.invariant-loop
invariant-loop l = l.self ≡ shortened l.initial.self (length l.initial.self.unapplied - l.counter)
