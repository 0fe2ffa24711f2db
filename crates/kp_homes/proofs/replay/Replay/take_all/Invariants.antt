use Rattle.std.proofs.Common.{◌≡◌, ◌-◌, drop}
use Rattle.kp_homes.specs.Opening.{restarted}
use Rattle.kp_homes.proofs.replay.Replay.take_all.Given as goal

abbrev pub invariant-loop-index : goal.invariant-loop-index
invariant-loop-index l = record {
  so_far : restarted l.fn.slot l.fn.self l.fn.journal.run.records l.fn.journal.run.places ≡ restarted l.fn.slot l.self (drop l.index l.fn.journal.run.records) (drop l.index l.fn.journal.run.places);
}

abbrev pub decreases-loop-index : goal.decreases-loop-index
decreases-loop-index l = l.count - l.index
