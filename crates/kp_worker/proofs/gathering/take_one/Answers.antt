use Rattle.std.proofs.Common.{refl}
use Rattle.kp_worker.specs.declared.heard.Heard.TheVariants as heard
use Rattle.kp_worker.proofs.Gathered.{adds_hangup, adds_later}
use Rattle.kp_worker.proofs.gathering.take_one.Goals as goal

pub returns-in-Later : goal.returns-in-Later
returns-in-Later g c = let e = c.in-Later.ensures in record { adds = λ box. adds_later (g.L.Lines.sees c.args.lines.now) (g.L.Lines.sees c.take.new.self) box c.args.kinds.now.items c.args.conn e.tells e.stays }

pub returns-in-End : goal.returns-in-End
returns-in-End g c = let e = c.in-End.ensures in let h = c.hang_up.ensures in record {
  adds = λ box. adds_hangup (g.L.Lines.sees c.args.lines.now) (g.L.Lines.sees c.take.new.self) (g.L.Lines.sees c.hang_up.new.lines) box c.args.kinds.now.items c.hang_up.new.kinds.items c.args.conn heard.End refl e.tells e.stays c.requires.there h.tells h.state h.waits h.faults h.kinds;
}

pub returns-in-Fault : goal.returns-in-Fault
returns-in-Fault g c = let e = c.in-Fault.ensures in let h = c.hang_up-in-Fault.ensures in record {
  adds = λ box. adds_hangup (g.L.Lines.sees c.args.lines.now) (g.L.Lines.sees c.take.new.self) (g.L.Lines.sees c.hang_up-in-Fault.new.lines) box c.args.kinds.now.items c.hang_up-in-Fault.new.kinds.items c.args.conn heard.Fault refl e.tells e.stays c.requires.there h.tells h.state h.waits h.faults h.kinds;
}
