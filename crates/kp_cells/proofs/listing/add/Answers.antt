use Rattle.std.proofs.Common.{◌||◌, ap, ◌∙◌}
use Rattle.std.specs.BTreeSet.{contains}
use Rattle.std.specs.Str.{bytes_eq}
use Rattle.kp_model.specs.State.{path_cmp}
use Rattle.kp_cells.proofs.Walked.{added}
use Rattle.kp_cells.proofs.listing.add.Goals as goal

pub returns : goal.returns
returns c q =
    c.in_ok-insert.ensures.updates.0 q
    ∙ added c.in_ok-from_str.field-0 q (contains path_cmp c.args.found.now q)
    ∙ ap (λ p. contains path_cmp c.args.found.now q || bytes_eq q p) c.in_ok-from_str.ensures
