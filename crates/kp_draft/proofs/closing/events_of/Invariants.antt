use Rattle.std.proofs.Common.{◌≡◌, take}
use Rattle.std.specs.List.{flat_map}
use Rattle.kp_model.specs.Step.{removal_events}
use Rattle.kp_draft.proofs.closing.events_of.Given as goal

abbrev pub invariant-loop-path : goal.invariant-loop-path
invariant-loop-path l = l.events ≡ flat_map removal_events (take l.path-index l.paths)
