use Rattle.std.proofs.Common.{◌≡◌, take}
use Rattle.kp_wire.proofs.copy_field.copies.Given as goal

abbrev pub invariant-loop-text : goal.invariant-loop-text
invariant-loop-text l = l.items.items ≡ take l.text-index l.from
