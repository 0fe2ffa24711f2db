use Rattle.std.proofs.Common.{ap, ◌∙◌}
use Rattle.std.specs.FinMap.{get}
use Rattle.kp_layers.specs.Layering.{latest_of}
use Rattle.kp_cells.proofs.ByPath.{at_latest}
use Rattle.kp_cells.proofs.cells.Cells.latest_meta.Goals as goal

pub returns : goal.returns
returns c =
    c.latest_at.ensures
    ∙ at_latest c.self.inside.names c.self.invariant.held.naming c.self.inside.nodes.metas c.args.path.now c.self.invariant.held.metas_named
    ∙ ap (λ o. get (latest_of o.metas) c.args.path.now) c.self.view_is
