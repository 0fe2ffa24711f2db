use Rattle.std.proofs.Common.{◌≡◌, take}
use Rattle.kp_cells.proofs.change.copied_acl.Given as goal

abbrev pub invariant-loop-line : goal.invariant-loop-line
invariant-loop-line l = l.acl ≡ take l.line-index l.from
