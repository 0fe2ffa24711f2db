use Rattle.std.proofs.Common.{ap, sym, ◌∙◌}
use Rattle.std.specs.FinMap as fin
use Rattle.kp_cells.proofs.Counts.{nodes_are, len-by_path}
use Rattle.kp_cells.proofs.cells.Cells.node_count.Goals as goal

pub returns : goal.returns
returns c =
    c.committed_len.ensures
    ∙ sym (len-by_path c.self.inside.names c.self.invariant.held.naming c.self.inside.nodes.metas c.self.invariant.held.metas_named)
    ∙ ap (λ o. fin.len o.metas.base) c.self.view_is
    ∙ sym (nodes_are c.args.self.now)
