use Rattle.std.proofs.Common.{take}
use Rattle.kp_jute.specs.Form.{WroteAll}
use Rattle.kp_snapshot.specs.Images.{lines}
use Rattle.kp_snapshot.proofs.put_lines.put_each.Given as goal

abbrev pub invariant-loop-line : goal.invariant-loop-line
invariant-loop-line l = WroteAll lines (take l.line-index l.acl) l.fn.out.items l.out.items
