use Rattle.std.proofs.Common.{refl, ap, ◌∙◌}
use Rattle.kp_model.specs.State.{is_held}
use Rattle.kp_cells.specs.Listed.{side_of}
use Rattle.kp_cells.proofs.Holders.{held_in}
use Rattle.kp_cells.proofs.cells.Cells.holds.Goals as goal

pub returns : goal.returns
returns c =
    let m = side_of c.args.latest c.self.inside.sessions in
    c.any_in.ensures
    ∙ held_in _ m c.args.origin.now c.of.result c.of.ensures (λ a. refl)
    ∙ ap (λ o. is_held (side_of c.args.latest o.sessions) c.args.origin.now) c.self.view_is
