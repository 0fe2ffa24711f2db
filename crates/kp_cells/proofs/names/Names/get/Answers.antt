use Rattle.std.proofs.Common.{ap, sym, ◌∙◌}
use Rattle.std.specs.FinMap.{get}
use Rattle.kp_cells.proofs.Named.{get-numbers_in}
use Rattle.kp_cells.proofs.names.Names.get.Goals as goal

pub returns-in-Some-clause-value : goal.returns-in-Some-clause-value
returns-in-Some-clause-value c =
    c.in-Some.ensures.value
    ∙ sym (get-numbers_in c.self.inside.numbers.entries c.args.path.now)
    ∙ ap (λ n. get n.numbers c.args.path.now) c.self.view_is

pub returns-in-None-clause-value : goal.returns-in-None-clause-value
returns-in-None-clause-value c =
    c.in-None.ensures.value
    ∙ sym (get-numbers_in c.self.inside.numbers.entries c.args.path.now)
    ∙ ap (λ n. get n.numbers c.args.path.now) c.self.view_is
