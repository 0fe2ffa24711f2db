use Rattle.kp_worker.proofs.Gathered.{adds_less, adds_none}
use Rattle.kp_worker.proofs.Lists.{none_more}
use Rattle.kp_worker.proofs.gathering.accept_one.Goals as goal

pub returns-then-is_err : goal.returns-then-is_err
returns-then-is_err g c = record { adds = λ o box. adds_less o o box box 0 1 c.args.kinds.now.items c.reserve.new.self.items (none_more 1) (adds_none o box c.args.kinds.now.items c.reserve.new.self.items c.reserve.ensures.items) }
