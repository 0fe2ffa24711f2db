use Rattle.kp_node.proofs.Meanings.{as_noop, as_open, as_attach, as_expire, as_write}
use Rattle.kp_node.proofs.meaning.mean_body.Goals as goal

pub returns-in-Noop-clause-meant : goal.returns-in-Noop-clause-meant
returns-in-Noop-clause-meant c = as_noop c.args.node c.args.boot c.args.zxid c.args.body.now c.args.reply.now c.args.seats.now.seats c.args.seats.now.seats c.requires.late c.in-Noop.is

pub returns-in-OpenSession-clause-meant : goal.returns-in-OpenSession-clause-meant
returns-in-OpenSession-clause-meant c = as_open c.args.node c.args.boot c.args.zxid c.args.body.now c.args.reply.now c.args.seats.now.seats c.args.seats.now.seats c.requires.late c.in-OpenSession.timeout c.in-OpenSession.passwd c.in-OpenSession.origin c.in-OpenSession.is

pub returns-in-Attach-clause-meant : goal.returns-in-Attach-clause-meant
returns-in-Attach-clause-meant c = as_attach c.args.node c.args.boot c.args.zxid c.args.body.now c.args.reply.now c.args.seats.now.seats c.mean_attach.new.seats.seats c.requires.late c.in-Attach.session c.in-Attach.passwd c.in-Attach.origin c.newcomer.result c.in-Attach.is c.newcomer.ensures c.mean_attach.ensures.meant

pub returns-in-Expire-clause-meant : goal.returns-in-Expire-clause-meant
returns-in-Expire-clause-meant c = as_expire c.args.node c.args.boot c.args.zxid c.args.body.now c.args.reply.now c.args.seats.now.seats c.end_session.new.seats.seats c.requires.late c.in-Expire.session c.in-Expire.is c.end_session.ensures.ended

pub returns-in-Write-clause-meant : goal.returns-in-Write-clause-meant
returns-in-Write-clause-meant c = as_write c.args.node c.args.boot c.args.zxid c.args.body.now c.args.reply.now c.args.seats.now.seats c.reply_in.new.seats.seats c.requires.late c.in-Write.session c.in-Write.epoch c.in-Write.seq c.in-Write.cmd c.args.answer c.in-Write.is c.requires.answer c.reply_in.ensures.replied
