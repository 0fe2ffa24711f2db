-- Requests: int xid, int type, and the fields of that type.
use Rattle.std.specs.Prelude.{◌≡◌, ℕ, ℤ, negsuc, Bool, true, false, List, [], ◌++◌, Option, Some, None, Ok, option_map, if◌then◌else◌}
use Rattle.std.specs.Ordering.{int_eq}
use Rattle.kp_jute.specs.Form.{Form, Reading, ◌>>=◌, ◌⊗◌, seen, narrowed, tagged, remains, Wrote}
use Rattle.kp_jute.specs.Jute.{ints, longs, unsigned_ints, booleans, buffers, texts, vectors, untils, fixed_ints, fixed_booleans}
use Rattle.kp_wire.specs.declared.fields.Creation.{Creation}
use Rattle.kp_wire.specs.declared.fields.Versioned.{Versioned}
use Rattle.kp_wire.specs.declared.fields.Watched.{Watched}
use Rattle.kp_wire.specs.declared.fields.Setting.{Setting}
use Rattle.kp_wire.specs.declared.fields.AclSetting.{AclSetting}
use Rattle.kp_wire.specs.declared.fields.Showing.{Showing}
use Rattle.kp_wire.specs.declared.fields.Watches.{Watches}
use Rattle.kp_wire.specs.declared.kind.Kind.{Kind}
use Rattle.kp_wire.specs.declared.kind.Kind.TheVariants as kinds
use Rattle.kp_wire.specs.declared.kind.LookKind.{LookKind}
use Rattle.kp_wire.specs.declared.kind.LookKind.TheVariants as looks
use Rattle.kp_wire.specs.declared.op_kind.OpKind.{OpKind}
use Rattle.kp_wire.specs.declared.op_kind.OpKind.TheVariants as op_kinds
use Rattle.kp_wire.specs.declared.request.Request.{Request}
use Rattle.kp_wire.specs.declared.request.WireAsk.{WireAsk}
use Rattle.kp_wire.specs.declared.request.WireAsk.TheVariants as ask
use Rattle.kp_wire.specs.declared.request.WireOp.{WireOp}
use Rattle.kp_wire.specs.declared.request.WireOp.TheVariants as op
use Rattle.kp_wire.specs.Common.{wire_acls}
use Rattle.kp_wire.specs.Kinds.{kind_forms}
use Rattle.kp_wire.specs.OpKinds.{op_number, op_named}

-- the same bytes, read as another type
abbrev pub read_as : {A B : Type 0} → (A → B) → Form A → Reading B
read_as to f p = f.read p >>= λ x. Ok (to x.0, x.1)

-- ---- fields that several types share

-- ustring path, buffer data, vector ACL, int flags
abbrev pub creations : Form Creation
creations = seen (λ t. record { path = t.0; bytes = t.1.0; acl = t.1.1.0; flags = t.1.1.1 }) (λ c. (c.path, (c.bytes, (c.acl, c.flags)))) (texts ⊗ (buffers ⊗ (vectors wire_acls ⊗ unsigned_ints)))

-- ustring path, int version
abbrev pub versioneds : Form Versioned
versioneds = seen (λ t. record { path = t.0; version = t.1 }) (λ v. (v.path, v.version)) (texts ⊗ unsigned_ints)

-- ustring path, boolean watch
abbrev pub watcheds : Form Watched
watcheds = seen (λ t. record { path = t.0; watch = t.1 }) (λ v. (v.path, v.watch)) (texts ⊗ booleans)

-- ustring path, buffer data, int version
abbrev pub settings : Form Setting
settings = seen (λ t. record { path = t.0; bytes = t.1.0; version = t.1.1 }) (λ s. (s.path, (s.bytes, s.version))) (texts ⊗ (buffers ⊗ unsigned_ints))

-- ustring path, vector ACL, int version
abbrev pub acl_settings : Form AclSetting
acl_settings = seen (λ t. record { path = t.0; acl = t.1.0; version = t.1.1 }) (λ s. (s.path, (s.acl, s.version))) (texts ⊗ (vectors wire_acls ⊗ unsigned_ints))

-- int type, ustring scheme, buffer auth
abbrev pub showings : Form Showing
showings = seen (λ t. record { kind = t.0; scheme = t.1.0; auth = t.1.1 }) (λ s. (s.kind, (s.scheme, s.auth))) (ints ⊗ (texts ⊗ buffers))

-- long relativeZxid, vector ustring data, vector ustring exist, vector ustring child
abbrev pub watches : Form Watches
watches = seen (λ t. record { zxid = t.0; contents = t.1.0; exist = t.1.1.0; child = t.1.1.1 }) (λ w. (w.zxid, (w.contents, (w.exist, w.child)))) (longs ⊗ (vectors texts ⊗ (vectors texts ⊗ vectors texts)))

-- no bytes
abbrev pub nothing : Form (Unit {0})
nothing = record { Fits = λ _. Unit {0}; spell = λ _. []; read = λ p. Ok (tt, p) }

-- ---- a multi: each operation behind int type, boolean 0, int -1; the end is -1, 1, -1

abbrev pub OpHeld : OpKind → Type 0
OpHeld op_kinds.Create = Creation
OpHeld op_kinds.Create2 = Creation
OpHeld op_kinds.Delete = Versioned
OpHeld op_kinds.SetData = Setting
OpHeld op_kinds.Check = Versioned

abbrev pub op_forms : (k : OpKind) → Form (OpHeld k)
op_forms op_kinds.Create = creations
op_forms op_kinds.Create2 = creations
op_forms op_kinds.Delete = versioneds
op_forms op_kinds.SetData = settings
op_forms op_kinds.Check = versioneds

-- the type of an operation, or None for the end
abbrev pub step_number : Option OpKind → ℤ
step_number None = negsuc 0
step_number (Some k) = op_number k

abbrev pub step_named : ℤ → Option (Option OpKind)
step_named z = if int_eq z (negsuc 0) then Some None else option_map (λ k. Some k) (op_named z)

abbrev pub step_kinds : Form (Option OpKind)
step_kinds = narrowed step_named step_number ints

abbrev pub is_end : Option OpKind → Bool
is_end None = true
is_end (Some k) = false

abbrev pub StepHeld : Option OpKind → Type 0
StepHeld None = Unit {0}
StepHeld (Some k) = OpHeld k

abbrev pub step_bodies : (s : Option OpKind) → Form (StepHeld s)
step_bodies None = nothing
step_bodies (Some k) = op_forms k

-- what follows the type: boolean and int -1
abbrev pub marks : Bool → Form (Unit {0})
marks last = seen (λ _. tt) (λ _. (tt, tt)) (fixed_booleans last ⊗ fixed_ints (negsuc 0))

abbrev pub step_rests : (s : Option OpKind) → Form (StepHeld s)
step_rests s = seen (λ t. t.1) (λ h. (tt, h)) (marks (is_end s) ⊗ step_bodies s)

abbrev pub op_of : (k : OpKind) → OpHeld k → WireOp
op_of op_kinds.Create c = op.Create c.path c.bytes c.acl c.flags
op_of op_kinds.Create2 c = op.Create2 c.path c.bytes c.acl c.flags
op_of op_kinds.Delete v = op.Delete v.path v.version
op_of op_kinds.SetData s = op.SetData s.path s.bytes s.version
op_of op_kinds.Check v = op.Check v.path v.version

abbrev pub op_kind : WireOp → OpKind
op_kind (op.Create path bytes acl flags) = op_kinds.Create
op_kind (op.Create2 path bytes acl flags) = op_kinds.Create2
op_kind (op.Delete path version) = op_kinds.Delete
op_kind (op.SetData path bytes version) = op_kinds.SetData
op_kind (op.Check path version) = op_kinds.Check

abbrev pub op_held : (o : WireOp) → OpHeld (op_kind o)
op_held (op.Create path bytes acl flags) = record { path = path; bytes = bytes; acl = acl; flags = flags }
op_held (op.Create2 path bytes acl flags) = record { path = path; bytes = bytes; acl = acl; flags = flags }
op_held (op.Delete path version) = record { path = path; version = version }
op_held (op.SetData path bytes version) = record { path = path; bytes = bytes; version = version }
op_held (op.Check path version) = record { path = path; version = version }

abbrev pub step_of : (s : Option OpKind) × StepHeld s → Option WireOp
step_of (None, u) = None
step_of (Some k, h) = Some (op_of k h)

abbrev pub step_in : Option WireOp → (s : Option OpKind) × StepHeld s
step_in None = (None, tt)
step_in (Some o) = (Some (op_kind o), op_held o)

-- an operation of that type is read so
abbrev pub op_at : OpKind → Reading WireOp
op_at op_kinds.Create = read_as (op_of op_kinds.Create) creations
op_at op_kinds.Create2 = read_as (op_of op_kinds.Create2) creations
op_at op_kinds.Delete = read_as (op_of op_kinds.Delete) versioneds
op_at op_kinds.SetData = read_as (op_of op_kinds.SetData) settings
op_at op_kinds.Check = read_as (op_of op_kinds.Check) versioneds

-- what follows the mark
abbrev pub behind_mark : Option OpKind → Reading (Option WireOp)
behind_mark None q = Ok (None, q)
behind_mark (Some k) q = op_at k q >>= λ o. Ok (Some o.0, o.1)

abbrev pub step_parts : Form ((s : Option OpKind) × StepHeld s)
step_parts = tagged step_kinds step_rests

-- int type, boolean, int -1, and the operation
abbrev pub steps : Form (Option WireOp)
steps = record {
  Fits = λ o. step_parts.Fits (step_in o);
  spell = λ o. step_parts.spell (step_in o);
  read = λ p. step_kinds.read p >>= λ k. (marks (is_end k.0)).read k.1 >>= λ u. behind_mark k.0 u.1;
}

-- ---- requests

abbrev pub Held : Kind → Type 0
Held (kinds.Op k) = OpHeld k
Held (kinds.Look l) = Watched
Held kinds.GetAcl = Option (List ℕ)
Held kinds.SetAcl = AclSetting
Held kinds.Sync = Option (List ℕ)
Held kinds.Ping = Unit {0}
Held kinds.Multi = List WireOp
Held kinds.Auth = Showing
Held kinds.SetWatches = Watches
Held kinds.CloseSession = Unit {0}
Held (kinds.Other z) = List ℕ

abbrev pub held_forms : (k : Kind) → Form (Held k)
held_forms (kinds.Op k) = op_forms k
held_forms (kinds.Look l) = watcheds
held_forms kinds.GetAcl = texts
held_forms kinds.SetAcl = acl_settings
held_forms kinds.Sync = texts
held_forms kinds.Ping = nothing
held_forms kinds.Multi = untils steps
held_forms kinds.Auth = showings
held_forms kinds.SetWatches = watches
held_forms kinds.CloseSession = nothing
held_forms (kinds.Other z) = remains

-- the request of that type with these fields
abbrev pub ask_of_op : WireOp → WireAsk
ask_of_op (op.Create path bytes acl flags) = ask.Create path bytes acl flags
ask_of_op (op.Create2 path bytes acl flags) = ask.Create2 path bytes acl flags
ask_of_op (op.Delete path version) = ask.Delete path version
ask_of_op (op.SetData path bytes version) = ask.SetData path bytes version
ask_of_op (op.Check path version) = ask.Check path version

abbrev pub look_of : LookKind → Watched → WireAsk
look_of looks.Exists v = ask.Exists v.path v.watch
look_of looks.GetData v = ask.GetData v.path v.watch
look_of looks.GetChildren v = ask.GetChildren v.path v.watch
look_of looks.GetChildren2 v = ask.GetChildren2 v.path v.watch

abbrev pub ask_of : (k : Kind) → Held k → WireAsk
ask_of (kinds.Op k) h = ask_of_op (op_of k h)
ask_of (kinds.Look l) v = look_of l v
ask_of kinds.GetAcl path = ask.GetAcl path
ask_of kinds.SetAcl s = ask.SetAcl s.path s.acl s.version
ask_of kinds.Sync path = ask.Sync path
ask_of kinds.Ping u = ask.Ping
ask_of kinds.Multi ops = ask.Multi ops
ask_of kinds.Auth s = ask.Auth s.kind s.scheme s.auth
ask_of kinds.SetWatches w = ask.SetWatches w.zxid w.contents w.exist w.child
ask_of kinds.CloseSession u = ask.CloseSession
ask_of (kinds.Other z) rest = ask.Other z rest

-- the type of a request
abbrev pub ask_kind : WireAsk → Kind
ask_kind (ask.Create path bytes acl flags) = kinds.Op op_kinds.Create
ask_kind (ask.Create2 path bytes acl flags) = kinds.Op op_kinds.Create2
ask_kind (ask.Delete path version) = kinds.Op op_kinds.Delete
ask_kind (ask.Exists path watch) = kinds.Look looks.Exists
ask_kind (ask.GetData path watch) = kinds.Look looks.GetData
ask_kind (ask.SetData path bytes version) = kinds.Op op_kinds.SetData
ask_kind (ask.GetAcl path) = kinds.GetAcl
ask_kind (ask.SetAcl path acl version) = kinds.SetAcl
ask_kind (ask.GetChildren path watch) = kinds.Look looks.GetChildren
ask_kind (ask.GetChildren2 path watch) = kinds.Look looks.GetChildren2
ask_kind (ask.Sync path) = kinds.Sync
ask_kind ask.Ping = kinds.Ping
ask_kind (ask.Check path version) = kinds.Op op_kinds.Check
ask_kind (ask.Multi ops) = kinds.Multi
ask_kind (ask.Auth kind scheme auth) = kinds.Auth
ask_kind (ask.SetWatches zxid contents exist child) = kinds.SetWatches
ask_kind ask.CloseSession = kinds.CloseSession
ask_kind (ask.Other kind rest) = kinds.Other kind

-- its fields
abbrev pub ask_held : (a : WireAsk) → Held (ask_kind a)
ask_held (ask.Create path bytes acl flags) = record { path = path; bytes = bytes; acl = acl; flags = flags }
ask_held (ask.Create2 path bytes acl flags) = record { path = path; bytes = bytes; acl = acl; flags = flags }
ask_held (ask.Delete path version) = record { path = path; version = version }
ask_held (ask.Exists path watch) = record { path = path; watch = watch }
ask_held (ask.GetData path watch) = record { path = path; watch = watch }
ask_held (ask.SetData path bytes version) = record { path = path; bytes = bytes; version = version }
ask_held (ask.GetAcl path) = path
ask_held (ask.SetAcl path acl version) = record { path = path; acl = acl; version = version }
ask_held (ask.GetChildren path watch) = record { path = path; watch = watch }
ask_held (ask.GetChildren2 path watch) = record { path = path; watch = watch }
ask_held (ask.Sync path) = path
ask_held ask.Ping = tt
ask_held (ask.Check path version) = record { path = path; version = version }
ask_held (ask.Multi ops) = ops
ask_held (ask.Auth kind scheme auth) = record { kind = kind; scheme = scheme; auth = auth }
ask_held (ask.SetWatches zxid contents exist child) = record { zxid = zxid; contents = contents; exist = exist; child = child }
ask_held ask.CloseSession = tt
ask_held (ask.Other kind rest) = rest

-- a request of that type is read so
abbrev pub ask_at : Kind → Reading WireAsk
ask_at (kinds.Op k) q = op_at k q >>= λ o. Ok (ask_of_op o.0, o.1)
ask_at (kinds.Look l) q = read_as (look_of l) watcheds q
ask_at kinds.GetAcl q = read_as (ask_of kinds.GetAcl) texts q
ask_at kinds.SetAcl q = read_as (ask_of kinds.SetAcl) acl_settings q
ask_at kinds.Sync q = read_as (ask_of kinds.Sync) texts q
ask_at kinds.Ping q = Ok (ask.Ping, q)
ask_at kinds.Multi q = read_as (ask_of kinds.Multi) (untils steps) q
ask_at kinds.Auth q = read_as (ask_of kinds.Auth) showings q
ask_at kinds.SetWatches q = read_as (ask_of kinds.SetWatches) watches q
ask_at kinds.CloseSession q = Ok (ask.CloseSession, q)
ask_at (kinds.Other z) q = read_as (ask_of (kinds.Other z)) remains q

abbrev pub ask_parts : Form ((k : Kind) × Held k)
ask_parts = tagged kind_forms held_forms

-- int type, and the fields of that type
abbrev pub asks : Form WireAsk
asks = record {
  Fits = λ a. ask_parts.Fits (ask_kind a, ask_held a);
  spell = λ a. ask_parts.spell (ask_kind a, ask_held a);
  read = λ p. kind_forms.read p >>= λ k. ask_at k.0 k.1;
}

-- int xid, int type, and the fields of that type
abbrev pub requests : Form Request
requests = seen (λ t. record { xid = t.0; ask = t.1 }) (λ r. (r.xid, r.ask)) (ints ⊗ asks)

-- ---- what is written of a request behind its type

-- the fields of an operation stand behind what was written before
abbrev pub WroteOp : WireOp → List ℕ → List ℕ → Type 0
WroteOp (op.Create path bytes acl flags) old new = Wrote creations (record { path = path; bytes = bytes; acl = acl; flags = flags }) old new
WroteOp (op.Create2 path bytes acl flags) old new = Wrote creations (record { path = path; bytes = bytes; acl = acl; flags = flags }) old new
WroteOp (op.Delete path version) old new = Wrote versioneds (record { path = path; version = version }) old new
WroteOp (op.SetData path bytes version) old new = Wrote settings (record { path = path; bytes = bytes; version = version }) old new
WroteOp (op.Check path version) old new = Wrote versioneds (record { path = path; version = version }) old new

-- the fields of a request do
abbrev pub WroteAsk : WireAsk → List ℕ → List ℕ → Type 0
WroteAsk (ask.Create path bytes acl flags) old new = Wrote creations (record { path = path; bytes = bytes; acl = acl; flags = flags }) old new
WroteAsk (ask.Create2 path bytes acl flags) old new = Wrote creations (record { path = path; bytes = bytes; acl = acl; flags = flags }) old new
WroteAsk (ask.Delete path version) old new = Wrote versioneds (record { path = path; version = version }) old new
WroteAsk (ask.Exists path watch) old new = Wrote watcheds (record { path = path; watch = watch }) old new
WroteAsk (ask.GetData path watch) old new = Wrote watcheds (record { path = path; watch = watch }) old new
WroteAsk (ask.SetData path bytes version) old new = Wrote settings (record { path = path; bytes = bytes; version = version }) old new
WroteAsk (ask.GetAcl path) old new = Wrote texts path old new
WroteAsk (ask.SetAcl path acl version) old new = Wrote acl_settings (record { path = path; acl = acl; version = version }) old new
WroteAsk (ask.GetChildren path watch) old new = Wrote watcheds (record { path = path; watch = watch }) old new
WroteAsk (ask.GetChildren2 path watch) old new = Wrote watcheds (record { path = path; watch = watch }) old new
WroteAsk (ask.Sync path) old new = Wrote texts path old new
WroteAsk ask.Ping old new = new ≡ old
WroteAsk (ask.Check path version) old new = Wrote versioneds (record { path = path; version = version }) old new
WroteAsk (ask.Multi ops) old new = Wrote (untils steps) ops old new
WroteAsk (ask.Auth kind scheme auth) old new = Wrote showings (record { kind = kind; scheme = scheme; auth = auth }) old new
WroteAsk (ask.SetWatches zxid contents exist child) old new = Wrote watches (record { zxid = zxid; contents = contents; exist = exist; child = child }) old new
WroteAsk ask.CloseSession old new = new ≡ old
WroteAsk (ask.Other kind rest) old new = new ≡ old ++ rest
