use Rattle.kp_node.proofs.Informed.{told_indexed, answer_told, meant_indexed, both_inform}
use Rattle.kp_node.proofs.informing.inform.Goals as goal

pub mean-requires-clause-indexed : goal.mean-requires-clause-indexed
mean-requires-clause-indexed c = told_indexed c.args.seats.now c.tell.new.seats c.requires.fired.0 (c.tell.ensures.told c.requires.fired.0 c.requires.fired.1) c.tell.ensures.beside c.requires.indexed

pub mean-requires-clause-answer : goal.mean-requires-clause-answer
mean-requires-clause-answer c = answer_told c.args.body.now c.args.reply.now c.args.answer c.requires.fired.0 c.args.seats.now.seats c.tell.new.seats.seats (c.tell.ensures.told c.requires.fired.0 c.requires.fired.1) c.requires.answer

pub returns-clause-informed : goal.returns-clause-informed
returns-clause-informed c = λ pairs h. both_inform c.args.node c.args.boot c.args.zxid c.args.body.now c.args.reply.now pairs c.args.seats.now.seats c.tell.new.seats.seats c.mean.new.seats.seats (c.tell.ensures.told pairs h) c.mean.ensures.meant

pub returns-clause-indexed : goal.returns-clause-indexed
returns-clause-indexed c = meant_indexed c.args.node c.args.boot c.args.zxid c.args.body.now c.args.reply.now c.tell.new.seats c.mean.new.seats c.mean.ensures.meant c.mean.ensures.beside
    (told_indexed c.args.seats.now c.tell.new.seats c.requires.fired.0 (c.tell.ensures.told c.requires.fired.0 c.requires.fired.1) c.tell.ensures.beside c.requires.indexed)
