use Rattle.std.proofs.Common.{take}
use Rattle.kp_jute.specs.Form.{WroteAll}
use Rattle.kp_wire.proofs.list.write_items.Given as goal

abbrev pub invariant-loop-item : goal.invariant-loop-item
invariant-loop-item g l = WroteAll g.T.Element.form (take l.item-index l.items) l.fn.writer l.writer
