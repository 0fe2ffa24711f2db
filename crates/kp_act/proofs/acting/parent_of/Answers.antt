use Rattle.std.proofs.Common.{ap, sym, ◌∙◌}
use Rattle.std.specs.Option.{option_copied}
use Rattle.kp_model.specs.Path.{parent}
use Rattle.kp_act.proofs.Acts.{if_same}
use Rattle.kp_cells.proofs.Paths.{root_above}
use Rattle.kp_act.proofs.Seen.{is_root}
use Rattle.kp_act.proofs.acting.parent_of.Goals as goal

pub returns-in-None : goal.returns-in-None
returns-in-None c = if_same c.from_str.result _ _ (root_above c.args.path.now (is_root _ (parent c.args.path.now) (sym (ap option_copied c.in-None.is) ∙ c.parent.ensures))) c.from_str.ensures
