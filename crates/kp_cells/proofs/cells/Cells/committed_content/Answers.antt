use Rattle.std.proofs.Common.{ap, sym, ◌∙◌, Some}
use Rattle.std.specs.FinMap.{get}
use Rattle.kp_cells.proofs.ByPath.{get-by_path}
use Rattle.kp_cells.proofs.cells.Cells.committed_content.Goals as goal

pub returns-in-Some : goal.returns-in-Some
returns-in-Some c =
    ap Some c.as_slice.ensures
    ∙ c.in-Some.ensures
    ∙ sym (get-by_path c.self.inside.names c.self.inside.nodes.contents.base c.args.path.now)
    ∙ ap (λ o. get o.contents.base c.args.path.now) c.self.view_is

pub returns-in-None : goal.returns-in-None
returns-in-None c =
    c.in-None.ensures
    ∙ sym (get-by_path c.self.inside.names c.self.inside.nodes.contents.base c.args.path.now)
    ∙ ap (λ o. get o.contents.base c.args.path.now) c.self.view_is
