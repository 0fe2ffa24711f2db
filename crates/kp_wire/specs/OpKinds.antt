-- The types of the operations that a multi may hold.
use Rattle.std.specs.Prelude.{ℤ, pos, Option, Some, None, if◌then◌else◌}
use Rattle.std.specs.Ordering.{int_eq}
use Rattle.kp_wire.specs.declared.op_kind.OpKind.{OpKind}
use Rattle.kp_wire.specs.declared.op_kind.OpKind.TheVariants as kinds

-- the number of each
abbrev pub op_number : OpKind → ℤ
op_number kinds.Create = pos 1
op_number kinds.Delete = pos 2
op_number kinds.SetData = pos 5
op_number kinds.Check = pos 13
op_number kinds.Create2 = pos 15

-- the one of a number
unfoldable pub op_named : ℤ → Option OpKind
op_named z = if int_eq z (pos 1) then Some kinds.Create else if int_eq z (pos 2) then Some kinds.Delete else if int_eq z (pos 5) then Some kinds.SetData else if int_eq z (pos 13) then Some kinds.Check else if int_eq z (pos 15) then Some kinds.Create2 else None
