use Rattle.std.proofs.Common.{ap, sym, ◌∙◌}
use Rattle.std.specs.FinMap.{get}
use Rattle.kp_cells.proofs.ByPath.{get-by_path}
use Rattle.kp_cells.proofs.cells.Cells.committed_meta.Goals as goal

pub returns : goal.returns
returns c =
    c.committed_at.ensures
    ∙ sym (get-by_path c.self.inside.names c.self.inside.nodes.metas.base c.args.path.now)
    ∙ ap (λ o. get o.metas.base c.args.path.now) c.self.view_is
