use Rattle.std.proofs.Common.{ap, sym, ◌∙◌}
use Rattle.std.specs.Option.{option_copied}
use Rattle.kp_act.proofs.Seen.{none_made, some_made}
use Rattle.kp_act.proofs.creation.children_made.Goals as goal

pub returns-in-None : goal.returns-in-None
returns-in-None g c = none_made (g.L.Look.nodes c.args.look.now) c.args.path.now (sym (ap option_copied c.in-None.is) ∙ c.meta.ensures)

pub returns-in-Some : goal.returns-in-Some
returns-in-Some g c = some_made (g.L.Look.nodes c.args.look.now) c.args.path.now c.in-Some.meta.now (sym (ap option_copied c.in-Some.is) ∙ c.meta.ensures)
