use Rattle.std.proofs.Common.{◌≡◌, refl}
use Rattle.kp_cells.specs.Overlays.{IsOpen, all_begun}
use Rattle.kp_prep.proofs.Carried.{either, begun_taken, open_taken}
use Rattle.kp_prep.proofs.stage.take_on.Goals as goal

pub returns-else-owner-eq0-clause-beneath : goal.returns-else-owner-eq0-clause-beneath
returns-else-owner-eq0-clause-beneath c = either (λ o. all_begun o ≡ all_begun c.args.cells.now) c.stage_owned.result _ _ _ c.stage_owned.ensures.ok c.stage_owned.ensures.err (begun_taken c.args.cells.now c.args.owner c.args.path.now) refl

pub returns-else-owner-eq0-clause-open : goal.returns-else-owner-eq0-clause-open
returns-else-owner-eq0-clause-open c = either IsOpen c.stage_owned.result _ _ _ c.stage_owned.ensures.ok c.stage_owned.ensures.err (open_taken c.args.cells.now c.args.owner c.args.path.now c.requires.open) c.requires.open
