use Rattle.kp_worker.proofs.Thoughts.{front_cut, front_ends}
use Rattle.kp_worker.proofs.thinking.think_front.Goals as goal

pub returns-in-Ok-clause-tells : goal.returns-in-Ok-clause-tells
returns-in-Ok-clause-tells g c = λ o. front_ends (g.C.Clock.may c.args.clock.now) c.args.seat.now c.think_all.new.seat c.commit_all.new.seat o c.args.notes.now.items c.think_all.new.notes.items c.commit_all.new.notes.items c.args.kinds.items c.commit_all.result c.requires.none c.in-Ok.ensures.tells c.commit_all.ensures.tells

pub returns-in-Err-clause-tells : goal.returns-in-Err-clause-tells
returns-in-Err-clause-tells g c = λ o. front_cut (g.C.Clock.may c.args.clock.now) c.args.seat.now c.think_all.new.seat o c.args.notes.now.items c.think_all.new.notes.items c.args.kinds.items c.in-Err.refusal c.in-Err.ensures.tells
