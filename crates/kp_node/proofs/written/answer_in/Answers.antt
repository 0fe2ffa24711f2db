use Rattle.kp_node.proofs.Writes.{answer_found, if_ok}
use Rattle.kp_node.proofs.written.answer_in.Goals as goal

pub returns-in-Write : goal.returns-in-Write
returns-in-Write c = if_ok _ _ c.answer_at.result
    (λ a h. answer_found c.args.seats.now c.args.body.now c.in-Write.session c.in-Write.epoch c.in-Write.seq c.in-Write.cmd c.args.reply.now a c.args.server c.requires.indexed c.in-Write.is c.requires.server h) c.answer_at.ensures
