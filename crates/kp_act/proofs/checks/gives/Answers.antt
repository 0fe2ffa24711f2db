use Rattle.std.proofs.Common.{Some, None, ap, sym, ◌∙◌}
use Rattle.std.specs.Option.{option_copied}
use Rattle.kp_act.proofs.Seen.{right_seen}
use Rattle.kp_act.proofs.checks.gives.Goals as goal

pub returns-in-None : goal.returns-in-None
returns-in-None g c = right_seen (g.L.Look.nodes c.args.look.now) c.args.path.now c.args.ids.now c.args.perm None (sym (ap option_copied c.in-None.is) ∙ c.acl.ensures)

pub returns-in-Some : goal.returns-in-Some
returns-in-Some g c = c.allows.ensures ∙ right_seen (g.L.Look.nodes c.args.look.now) c.args.path.now c.args.ids.now c.args.perm (Some c.in-Some.acl.now) (sym (ap option_copied c.in-Some.is) ∙ c.acl.ensures)
