use Rattle.std.proofs.Common.{ap, sym, ◌∙◌}
use Rattle.std.specs.Option.{option_copied}
use Rattle.kp_model.specs.Path.{parent}
use Rattle.kp_act.proofs.Seen.{is_root, delete_malformed, delete_root}
use Rattle.kp_act.proofs.checks.may_remove.Goals as goal

pub returns-in-Err : goal.returns-in-Err
returns-in-Err g c = delete_malformed (g.L.Look.nodes c.args.look.now) c.args.ids.now c.args.path.now c.args.version c.in-Err.ensures

pub returns-in-None : goal.returns-in-None
returns-in-None g c = delete_root (g.L.Look.nodes c.args.look.now) c.args.ids.now c.args.path.now c.args.version c.in-Ok.ensures (is_root _ (parent c.args.path.now) (sym (ap option_copied c.in-None.is) ∙ c.parent.ensures))
