use Rattle.std.proofs.Common.{map, ap, ◌∙◌}
use Rattle.kp_model.specs.Path.{name}
use Rattle.kp_model.specs.State.{State, kids}
use Rattle.kp_cells.proofs.Anyone.{if_ok}
use Rattle.kp_cells.proofs.Shown.{kids_on}
use Rattle.kp_cells.proofs.view.SideViewView.kids.Goals as goal

pub returns : goal.returns
returns c =
    if_ok _ _ c.names_of-2.result
    (λ names same. same ∙ ap (map name) c.in_ok-children.ensures ∙ kids_on c.self.inside.latest c.self.inside.cells.now c.args.path.now
    ∙ ap (λ (s : State). kids s.nodes c.args.path.now) c.self.view_is)
    c.names_of-2.ensures
