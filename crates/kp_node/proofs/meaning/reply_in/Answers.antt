use Rattle.kp_node.proofs.Meant.{none_replied, server_replied}
use Rattle.kp_node.proofs.meaning.reply_in.Goals as goal

pub returns-in-None-clause-replied : goal.returns-in-None-clause-replied
returns-in-None-clause-replied c = none_replied c.args.session c.args.epoch c.args.seq c.args.answer c.args.seats.now c.requires c.in-None.ensures.server

pub returns-in-Some-clause-replied : goal.returns-in-Some-clause-replied
returns-in-Some-clause-replied c = server_replied c.args.session c.args.epoch c.args.seq c.args.answer c.args.seats.now c.reply_at.new.seats c.requires c.in-Some.conn c.in-Some.ensures.server c.reply_at.ensures
