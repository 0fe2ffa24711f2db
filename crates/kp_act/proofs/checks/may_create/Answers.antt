use Rattle.std.proofs.Common.{ap, sym, ◌∙◌}
use Rattle.std.specs.Option.{option_copied}
use Rattle.kp_model.specs.Path.{parent}
use Rattle.kp_act.proofs.Seen.{is_root, place_root}
use Rattle.kp_act.proofs.checks.may_create.Goals as goal

pub returns-in-None : goal.returns-in-None
returns-in-None g c = place_root (g.L.Look.nodes c.args.look.now) c.args.ids.now c.args.path.now (is_root _ (parent c.args.path.now) (sym (ap option_copied c.in-None.is) ∙ c.parent.ensures))
