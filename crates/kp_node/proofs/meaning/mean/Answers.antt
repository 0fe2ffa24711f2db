use Rattle.std.proofs.Common.{sym, ◌∙◌}
use Rattle.kp_node.proofs.Meanings.{late_means}
use Rattle.kp_node.proofs.meaning.mean.Goals as goal

pub returns-then-is_late-clause-meant : goal.returns-then-is_late-clause-meant
returns-then-is_late-clause-meant c = late_means c.args.node c.args.boot c.args.zxid c.args.body.now c.args.reply.now c.args.seats.now.seats (sym c.is_late.ensures ∙ c.if-is_late.true)
