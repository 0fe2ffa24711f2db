use Rattle.kp_worker.proofs.Gathered.{adds_none}
use Rattle.kp_worker.proofs.gathering.add_own.Goals as goal

pub returns-then-is_err : goal.returns-then-is_err
returns-then-is_err g c = record { adds = λ o box. adds_none o box c.args.kinds.now.items c.reserve.new.self.items c.reserve.ensures.items }
