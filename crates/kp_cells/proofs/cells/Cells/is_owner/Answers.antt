use Rattle.std.proofs.Common.{ap, ◌∙◌, false}
use Rattle.std.specs.Prelude.{◌==◌}
use Rattle.std.specs.Option.{option_map_or}
use Rattle.std.specs.FinMap.{get}
use Rattle.kp_layers.specs.Layering.{latest_of}
use Rattle.kp_cells.proofs.ByPath.{at_latest}
use Rattle.kp_cells.proofs.cells.Cells.is_owner.Goals as goal

pub returns-in-Some : goal.returns-in-Some
returns-in-Some c =
    ap (λ r. option_map_or (λ n. n == c.args.session) r false) (
    c.in-Some.ensures
    ∙ at_latest c.self.inside.names c.self.invariant.held.naming c.self.inside.nodes.owners c.args.path.now c.self.invariant.held.owners_named
    ∙ ap (λ o. get (latest_of o.owners) c.args.path.now) c.self.view_is)

pub returns-in-None : goal.returns-in-None
returns-in-None c =
    ap (λ r. option_map_or (λ n. n == c.args.session) r false) (
    c.in-None.ensures
    ∙ at_latest c.self.inside.names c.self.invariant.held.naming c.self.inside.nodes.owners c.args.path.now c.self.invariant.held.owners_named
    ∙ ap (λ o. get (latest_of o.owners) c.args.path.now) c.self.view_is)
