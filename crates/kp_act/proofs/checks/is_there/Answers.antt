use Rattle.std.proofs.Common.{is_some, ap, sym, ◌∙◌}
use Rattle.std.specs.Option.{option_copied}
use Rattle.kp_act.proofs.Seen.{meta_none, meta_some}
use Rattle.kp_act.proofs.checks.is_there.Goals as goal

pub returns-in-None : goal.returns-in-None
returns-in-None g c = sym (ap is_some (meta_none (g.L.Look.nodes c.args.look.now) c.args.path.now (sym (ap option_copied c.in-None.is) ∙ c.meta.ensures)))

pub returns-in-Some : goal.returns-in-Some
returns-in-Some g c = sym (ap is_some (meta_some (g.L.Look.nodes c.args.look.now) c.args.path.now c.in-Some.field-0.now (sym (ap option_copied c.in-Some.is) ∙ c.meta.ensures)).1)
