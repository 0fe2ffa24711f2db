use Rattle.std.proofs.Common.{ap, length, ◌∙◌}
use Rattle.std.specs.Prelude.{min}
use Rattle.kp_cells.proofs.Shown.{children_on}
use Rattle.kp_cells.proofs.cells.Cells.count_kids.Goals as goal

pub returns : goal.returns
returns c = c.held-count.ensures ∙ ap (λ n. min n 2147483647) (c.len.ensures ∙ ap length (c.in_ok-list.ensures ∙ children_on c.args.self.now c.args.path.now))
