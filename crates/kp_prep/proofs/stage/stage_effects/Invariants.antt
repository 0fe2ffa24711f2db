use Rattle.std.proofs.Common.{◌≡◌, length}
use Rattle.std.specs.List.{All}
use Rattle.std.specs.Vec.Iter.{into_iter_items, into_iter_len}
use Rattle.kp_cells.specs.Overlays.{IsOpen, all_begun}
use Rattle.kp_act.specs.Effects.{IsFit}
use Rattle.kp_prep.specs.Staged.{staged_effects}
use Rattle.kp_prep.proofs.stage.stage_effects.Given as goal

abbrev pub invariant-loop-effect : goal.invariant-loop-effect
invariant-loop-effect l = record {
  staged : staged_effects l.cells (into_iter_items l.effect-iterator) ≡ staged_effects l.fn.cells l.fn.effects;
  left : into_iter_len l.effect-iterator ≡ length (into_iter_items l.effect-iterator);
  fit : All IsFit (into_iter_items l.effect-iterator);
  beneath : all_begun l.cells ≡ all_begun l.fn.cells;
  opened : IsOpen l.cells;
}
