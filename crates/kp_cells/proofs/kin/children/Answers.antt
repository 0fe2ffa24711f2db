use Rattle.std.proofs.Common.{nat_eq, ap, ◌∙◌}
use Rattle.std.specs.List.{list_any}
use Rattle.kp_cells.specs.Kin.{kid_in}
use Rattle.kp_cells.proofs.Anyone.{if_ok}
use Rattle.kp_cells.proofs.Sets.{same_test}
use Rattle.kp_cells.proofs.kin.children.Goals as goal

pub returns-in-Some : goal.returns-in-Some
returns-in-Some c =
    if_ok _ _ c.numbers_of.result
    (λ ids same n. ap (list_any (nat_eq n)) same ∙ same_test n c.in-Some.set.now.keys ∙ ap (λ r. kid_in r n) c.in-Some.ensures.value)
    c.numbers_of.ensures
