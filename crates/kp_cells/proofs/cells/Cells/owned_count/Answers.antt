use Rattle.std.proofs.Common.{ap, sym, ◌∙◌}
use Rattle.std.specs.FinMap as fin
use Rattle.kp_cells.proofs.Counts.{owned_are, len-by_path}
use Rattle.kp_cells.proofs.cells.Cells.owned_count.Goals as goal

pub returns : goal.returns
returns c =
    c.committed_len.ensures
    ∙ sym (len-by_path c.self.inside.names c.self.invariant.held.naming c.self.inside.nodes.owners c.self.invariant.held.owners_named)
    ∙ ap (λ o. fin.len o.owners.base) c.self.view_is
    ∙ sym (owned_are c.args.self.now c.requires)
