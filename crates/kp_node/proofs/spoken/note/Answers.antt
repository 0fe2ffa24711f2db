use Rattle.std.proofs.Common.{subst, sym}
use Rattle.kp_node.proofs.Noted.{noted, where_ok}
use Rattle.kp_node.specs.Spoken.{Knows}
use Rattle.kp_node.proofs.spoken.note.Goals as goal

pub returns-clause-knows : goal.returns-clause-knows
returns-clause-knows c = subst (Knows c.insert.new.self) (sym c.in_ok-push.ensures.items) (noted c.args.known.now c.insert.new.self c.args.list.now.items c.args.session c.requires (where_ok _ c.insert.result c.if-is_err.ensures.negation c.insert.ensures.updates).0)
