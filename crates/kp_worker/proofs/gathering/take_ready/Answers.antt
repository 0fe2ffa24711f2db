use Rattle.std.proofs.Common.{subst}
use Rattle.kp_worker.specs.Calls.{Adds}
use Rattle.kp_worker.proofs.Gathered.{adds_none}
use Rattle.kp_worker.proofs.gathering.take_ready.Goals as goal

pub returns-then-is_err : goal.returns-then-is_err
returns-then-is_err g c = record { adds = λ box. adds_none (g.L.Lines.sees c.args.lines.now) box c.args.kinds.now.items c.reserve.new.self.items c.reserve.ensures.items }

pub returns-then-is_ready : goal.returns-then-is_ready
returns-then-is_ready g c = record { adds = λ box. subst (λ l. Adds (g.L.Lines.sees c.args.lines.now) (g.L.Lines.sees c.take_one.new.lines) box box 0 l c.take_one.new.kinds.items) c.reserve.ensures.items (c.take_one.ensures.adds box) }

pub returns-else-is_ready : goal.returns-else-is_ready
returns-else-is_ready g c = record { adds = λ box. adds_none (g.L.Lines.sees c.args.lines.now) box c.args.kinds.now.items c.reserve.new.self.items c.reserve.ensures.items }
