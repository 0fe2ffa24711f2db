use Rattle.std.proofs.Common.{take}
use Rattle.kp_jute.specs.Form.{WroteAll}
use Rattle.kp_wire.specs.Common.{listed}
use Rattle.kp_wire.proofs.marked.write_steps.Given as goal

abbrev pub invariant-loop-item : goal.invariant-loop-item
invariant-loop-item g l = WroteAll (listed g.T.Marked.form) (take l.item-index l.items) l.fn.writer l.writer
