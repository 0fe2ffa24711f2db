-- The commands of a log entry as bytes.
use Rattle.std.specs.Prelude.{ℕ, Bool, List, [], ◌∷◌}
use Rattle.kp_model.specs.declared.node.Acl.{Acl}
use Rattle.kp_model.specs.declared.command.Op.{Op}
use Rattle.kp_model.specs.declared.command.Op.TheVariants as op
use Rattle.kp_model.specs.declared.command.Cmd.{Cmd}
use Rattle.kp_model.specs.declared.command.Cmd.TheVariants as cmd
use Rattle.kp_entry.specs.declared.kinds.OpKind.{OpKind}
use Rattle.kp_entry.specs.declared.kinds.OpKind.TheVariants as op_kind
use Rattle.kp_entry.specs.declared.kinds.CmdKind.{CmdKind}
use Rattle.kp_entry.specs.declared.kinds.CmdKind.TheVariants as cmd_kind
use Rattle.kp_jute.specs.Form.{Reading, Form, ◌⊗◌, seen, tagged}
use Rattle.kp_jute.specs.Jute.{booleans}
use Rattle.kp_entry.specs.Fields.{u32s, blobs, strings, lists, kinds, read_of, units, acls}

-- ---- the fields of each command, in their order

-- path, data, access list, flags, and whether the reply has the node's numbers
abbrev pub Creation : Type 0
Creation = List ℕ × (List ℕ × (List Acl × (ℕ × Bool)))

abbrev pub creations : Form Creation
creations = strings ⊗ (blobs ⊗ (lists acls ⊗ (u32s ⊗ booleans)))

-- path and version
abbrev pub versioned : Form (List ℕ × ℕ)
versioned = strings ⊗ u32s

-- path, data and version
abbrev pub settings : Form (List ℕ × (List ℕ × ℕ))
settings = strings ⊗ (blobs ⊗ u32s)

-- path, access list and version
abbrev pub acl_settings : Form (List ℕ × (List Acl × ℕ))
acl_settings = strings ⊗ (lists acls ⊗ u32s)

-- scheme and what is shown
abbrev pub auths : Form (List ℕ × List ℕ)
auths = strings ⊗ blobs

-- ---- operations

abbrev pub op_number : OpKind → ℕ
op_number op_kind.Create = 1
op_number op_kind.Delete = 2
op_number op_kind.SetData = 3
op_number op_kind.Check = 5

abbrev pub op_kinds : List OpKind
op_kinds = op_kind.Create ∷ op_kind.Delete ∷ op_kind.SetData ∷ op_kind.Check ∷ []

abbrev pub OpFields : OpKind → Type 0
OpFields op_kind.Create = Creation
OpFields op_kind.Delete = List ℕ × ℕ
OpFields op_kind.SetData = List ℕ × (List ℕ × ℕ)
OpFields op_kind.Check = List ℕ × ℕ

abbrev pub op_fields : (k : OpKind) → Form (OpFields k)
op_fields op_kind.Create = creations
op_fields op_kind.Delete = versioned
op_fields op_kind.SetData = settings
op_fields op_kind.Check = versioned

abbrev pub op_with : (k : OpKind) → OpFields k → Op
op_with op_kind.Create t = op.Create t.0 t.1.0 t.1.1.0 t.1.1.1.0 t.1.1.1.1
op_with op_kind.Delete t = op.Delete t.0 t.1
op_with op_kind.SetData t = op.SetData t.0 t.1.0 t.1.1
op_with op_kind.Check t = op.Check t.0 t.1

abbrev pub op_to : (k : OpKind) × OpFields k → Op
op_to t = op_with t.0 t.1

abbrev pub op_from : Op → (k : OpKind) × OpFields k
op_from (op.Create path bytes acl flags stat) = (op_kind.Create, (path, (bytes, (acl, (flags, stat)))))
op_from (op.Delete path version) = (op_kind.Delete, (path, version))
op_from (op.SetData path bytes version) = (op_kind.SetData, (path, (bytes, version)))
op_from (op.Check path version) = (op_kind.Check, (path, version))

-- an operation of this kind, from its fields
unfoldable pub op_in : OpKind → Reading Op
op_in k p = read_of op_fields op_with k p

abbrev pub ops : Form Op
ops = seen op_to op_from (tagged (kinds op_kinds op_number) op_fields)

-- ---- commands

abbrev pub cmd_number : CmdKind → ℕ
cmd_number (cmd_kind.Op k) = op_number k
cmd_number cmd_kind.SetAcl = 4
cmd_number cmd_kind.Auth = 6
cmd_number cmd_kind.Multi = 7
cmd_number cmd_kind.Sync = 8
cmd_number cmd_kind.CloseSession = 9

abbrev pub cmd_kinds : List CmdKind
cmd_kinds = cmd_kind.Op op_kind.Create ∷ cmd_kind.Op op_kind.Delete ∷ cmd_kind.Op op_kind.SetData ∷ cmd_kind.SetAcl ∷ cmd_kind.Op op_kind.Check ∷ cmd_kind.Auth ∷ cmd_kind.Multi ∷ cmd_kind.Sync ∷ cmd_kind.CloseSession ∷ []

abbrev pub CmdFields : CmdKind → Type 0
CmdFields (cmd_kind.Op k) = OpFields k
CmdFields cmd_kind.SetAcl = List ℕ × (List Acl × ℕ)
CmdFields cmd_kind.Auth = List ℕ × List ℕ
CmdFields cmd_kind.Multi = List Op
CmdFields cmd_kind.Sync = List ℕ
CmdFields cmd_kind.CloseSession = Unit {0}

abbrev pub cmd_fields : (k : CmdKind) → Form (CmdFields k)
cmd_fields (cmd_kind.Op k) = op_fields k
cmd_fields cmd_kind.SetAcl = acl_settings
cmd_fields cmd_kind.Auth = auths
cmd_fields cmd_kind.Multi = lists ops
cmd_fields cmd_kind.Sync = strings
cmd_fields cmd_kind.CloseSession = units

-- an operation by itself
abbrev pub cmd_of : Op → Cmd
cmd_of (op.Create path bytes acl flags stat) = cmd.Create path bytes acl flags stat
cmd_of (op.Delete path version) = cmd.Delete path version
cmd_of (op.SetData path bytes version) = cmd.SetData path bytes version
cmd_of (op.Check path version) = cmd.Check path version

abbrev pub cmd_with : (k : CmdKind) → CmdFields k → Cmd
cmd_with (cmd_kind.Op k) t = cmd_of (op_with k t)
cmd_with cmd_kind.SetAcl t = cmd.SetAcl t.0 t.1.0 t.1.1
cmd_with cmd_kind.Auth t = cmd.Auth t.0 t.1
cmd_with cmd_kind.Multi t = cmd.Multi t
cmd_with cmd_kind.Sync t = cmd.Sync t
cmd_with cmd_kind.CloseSession t = cmd.CloseSession

abbrev pub cmd_to : (k : CmdKind) × CmdFields k → Cmd
cmd_to t = cmd_with t.0 t.1

abbrev pub cmd_from : Cmd → (k : CmdKind) × CmdFields k
cmd_from (cmd.Create path bytes acl flags stat) = (cmd_kind.Op op_kind.Create, (path, (bytes, (acl, (flags, stat)))))
cmd_from (cmd.Delete path version) = (cmd_kind.Op op_kind.Delete, (path, version))
cmd_from (cmd.SetData path bytes version) = (cmd_kind.Op op_kind.SetData, (path, (bytes, version)))
cmd_from (cmd.SetAcl path acl version) = (cmd_kind.SetAcl, (path, (acl, version)))
cmd_from (cmd.Check path version) = (cmd_kind.Op op_kind.Check, (path, version))
cmd_from (cmd.Auth scheme auth) = (cmd_kind.Auth, (scheme, auth))
cmd_from (cmd.Multi operations) = (cmd_kind.Multi, operations)
cmd_from (cmd.Sync path) = (cmd_kind.Sync, path)
cmd_from cmd.CloseSession = (cmd_kind.CloseSession, tt)

-- a command of this kind, from its fields
unfoldable pub cmd_in : CmdKind → Reading Cmd
cmd_in k p = read_of cmd_fields cmd_with k p

abbrev pub cmds : Form Cmd
cmds = seen cmd_to cmd_from (tagged (kinds cmd_kinds cmd_number) cmd_fields)
