use Rattle.std.proofs.Common.{ap, ◌∙◌, Some}
use Rattle.std.specs.FinMap.{get}
use Rattle.kp_layers.specs.Layering.{latest_of}
use Rattle.kp_cells.proofs.ByPath.{at_latest}
use Rattle.kp_cells.proofs.cells.Cells.latest_content.Goals as goal

pub returns-in-Some : goal.returns-in-Some
returns-in-Some c =
    ap Some c.as_slice.ensures
    ∙ c.in-Some.ensures
    ∙ at_latest c.self.inside.names c.self.invariant.held.naming c.self.inside.nodes.contents c.args.path.now c.self.invariant.held.contents_named
    ∙ ap (λ o. get (latest_of o.contents) c.args.path.now) c.self.view_is

pub returns-in-None : goal.returns-in-None
returns-in-None c =
    c.in-None.ensures
    ∙ at_latest c.self.inside.names c.self.invariant.held.naming c.self.inside.nodes.contents c.args.path.now c.self.invariant.held.contents_named
    ∙ ap (λ o. get (latest_of o.contents) c.args.path.now) c.self.view_is
