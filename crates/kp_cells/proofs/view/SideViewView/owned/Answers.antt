use Rattle.std.proofs.Common.{ap, ◌∙◌}
use Rattle.kp_model.specs.State.{State, owned}
use Rattle.kp_cells.proofs.Anyone.{if_ok}
use Rattle.kp_cells.proofs.Shown.{owned_on}
use Rattle.kp_cells.proofs.view.SideViewView.owned.Goals as goal

pub returns : goal.returns
returns c =
    if_ok _ _ c.owned.result
    (λ paths same. same ∙ owned_on c.self.inside.latest c.self.inside.cells.now c.args.session ∙ ap (λ (s : State). owned s.nodes c.args.session) c.self.view_is)
    c.owned.ensures
