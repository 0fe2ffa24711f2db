use Rattle.std.proofs.Common.{sym, ap, ◌∙◌}
use Rattle.kp_model.specs.State.{State}
use Rattle.kp_model.specs.Step.{apply}
use Rattle.kp_model.specs.Touched.{touched}
use Rattle.kp_cells.specs.Overlays.{latest_parts}
use Rattle.kp_cells.specs.Parts.{parts_of}
use Rattle.kp_prep.proofs.Carried.{stands, fitting}
use Rattle.kp_prep.proofs.Within.{within}
use Rattle.kp_prep.proofs.preparing.prepare.Goals as goal

pub returns-in-Ok-clause-stands : goal.returns-in-Ok-clause-stands
returns-in-Ok-clause-stands c =
    ap latest_parts c.in-Ok.ensures.staged
    ∙ stands (touched c.latest.result c.args.entry.now) c.args.cells.now c.latest.result (apply c.latest.result c.args.entry.now) c.in_ok-found.found
    (fitting c.args.cells.now c.requires.fits ∙ ap parts_of (sym c.latest.ensures)) c.in_ok-found.ensures
    ∙ ap (λ (s : State). parts_of (apply s c.args.entry.now).state) c.latest.ensures

pub returns-in-Ok-clause-touches : goal.returns-in-Ok-clause-touches
returns-in-Ok-clause-touches c = within c.args.entry.now c.latest.result _ c.args.cells.now _ c.in_ok-found.found c.latest.ensures c.in-Ok.ensures.staged c.requires.fresh c.in_ok-found.ensures.paths c.in_ok-found.ensures.sessions
