use Rattle.std.proofs.Common.{ap, sym, ◌∙◌}
use Rattle.std.specs.FinMap as fin
use Rattle.kp_cells.proofs.Counts.{sessions_are}
use Rattle.kp_cells.proofs.cells.Cells.session_count.Goals as goal

pub returns : goal.returns
returns c =
    c.committed_len.ensures
    ∙ ap (λ o. fin.len o.sessions.base) c.self.view_is
    ∙ sym (sessions_are c.args.self.now)
