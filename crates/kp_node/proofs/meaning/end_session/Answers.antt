use Rattle.std.proofs.Common.{sym, ◌∙◌}
use Rattle.kp_node.proofs.Meant.{none_ended, spared_stays, server_ended}
use Rattle.kp_node.proofs.meaning.end_session.Goals as goal

pub returns-in-None-clause-ended : goal.returns-in-None-clause-ended
returns-in-None-clause-ended c = none_ended c.args.seats.now c.args.session c.args.spared c.args.zxid c.args.refusal.now c.requires c.in-None.ensures.server

pub returns-then-not-is_that-clause-ended : goal.returns-then-not-is_that-clause-ended
returns-then-not-is_that-clause-ended c = server_ended c.args.seats.now c.args.session c.args.spared c.args.zxid c.args.refusal.now c.requires c.in-Some.conn c.in-Some.ensures.server c.refuse_at.new.seats c.refuse_at.ensures (sym c.is_that.ensures ∙ c.if-not-is_that.true)

pub returns-else-not-is_that-clause-ended : goal.returns-else-not-is_that-clause-ended
returns-else-not-is_that-clause-ended c = spared_stays c.args.seats.now c.args.session c.args.spared c.args.zxid c.args.refusal.now c.requires c.in-Some.conn c.in-Some.ensures.server (sym c.is_that.ensures ∙ c.if-not-is_that.false)
