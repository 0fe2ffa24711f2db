-- The types of requests: a number for each row of the table, and any other number.
use Rattle.std.specs.Prelude.{ℤ, pos, negsuc, Option, Some, None, if◌then◌else◌}
use Rattle.std.specs.Ordering.{int_eq}
use Rattle.kp_jute.specs.Form.{Form, narrowed}
use Rattle.kp_jute.specs.Jute.{ints}
use Rattle.kp_wire.specs.declared.kind.Kind.{Kind}
use Rattle.kp_wire.specs.declared.kind.Kind.TheVariants as kinds
use Rattle.kp_wire.specs.declared.kind.LookKind.{LookKind}
use Rattle.kp_wire.specs.declared.kind.LookKind.TheVariants as looks
use Rattle.kp_wire.specs.declared.op_kind.OpKind.{OpKind}
use Rattle.kp_wire.specs.OpKinds.{op_number, op_named}

-- ---- types that look at a path and may leave a watch there

abbrev pub look_number : LookKind → ℤ
look_number looks.Exists = pos 3
look_number looks.GetData = pos 4
look_number looks.GetChildren = pos 8
look_number looks.GetChildren2 = pos 12

unfoldable pub look_named : ℤ → Option LookKind
look_named z = if int_eq z (pos 3) then Some looks.Exists else if int_eq z (pos 4) then Some looks.GetData else if int_eq z (pos 8) then Some looks.GetChildren else if int_eq z (pos 12) then Some looks.GetChildren2 else None

-- ---- all types

-- the number of each
abbrev pub kind_number : Kind → ℤ
kind_number (kinds.Op k) = op_number k
kind_number (kinds.Look l) = look_number l
kind_number kinds.GetAcl = pos 6
kind_number kinds.SetAcl = pos 7
kind_number kinds.Sync = pos 9
kind_number kinds.Ping = pos 11
kind_number kinds.Multi = pos 14
kind_number kinds.Auth = pos 100
kind_number kinds.SetWatches = pos 101
kind_number kinds.CloseSession = negsuc 10
kind_number (kinds.Other z) = z

-- the one of a number that is neither of an operation nor of a look
unfoldable pub plain_kind_of : ℤ → Kind
plain_kind_of z = if int_eq z (pos 6) then kinds.GetAcl else if int_eq z (pos 7) then kinds.SetAcl else if int_eq z (pos 9) then kinds.Sync else if int_eq z (pos 11) then kinds.Ping else if int_eq z (pos 14) then kinds.Multi else if int_eq z (pos 100) then kinds.Auth else if int_eq z (pos 101) then kinds.SetWatches else if int_eq z (negsuc 10) then kinds.CloseSession else kinds.Other z

abbrev pub look_or_plain : Option LookKind → ℤ → Kind
look_or_plain (Some l) z = kinds.Look l
look_or_plain None z = plain_kind_of z

abbrev pub op_or_other : Option OpKind → ℤ → Kind
op_or_other (Some k) z = kinds.Op k
op_or_other None z = look_or_plain (look_named z) z

-- the one of a number
unfoldable pub kind_of : ℤ → Kind
kind_of z = op_or_other (op_named z) z

-- a type is written as its number; one without a row only where its number has none
abbrev pub kind_forms : Form Kind
kind_forms = narrowed (λ z. Some (kind_of z)) kind_number ints
