-- Forms that several records share, and what a call that reads or writes a whole packet has to do with its form.
use Rattle.std.specs.Prelude.{◌≡◌, ◌++◌, ℕ, List, Option, Some, Result, Ok, Err}
use Rattle.kp_jute.specs.declared.fault.JuteFail.{JuteFail}
use Rattle.kp_jute.specs.declared.fault.JuteFail.TheVariants as jute
use Rattle.kp_jute.specs.Form.{Place, ◌>>=◌, Form, ◌⊗◌, seen, present}
use Rattle.kp_jute.specs.Jute.{unsigned_ints, unsigned_longs, texts, packets}
use Rattle.kp_wire.specs.declared.acl.WireAcl.{WireAcl}
use Rattle.kp_wire.specs.declared.stat.Stat.{Stat}
use Rattle.kp_wire.specs.declared.fail.WireFail.{WireFail}
use Rattle.kp_wire.specs.declared.fail.WireFail.TheVariants as wire

-- a line of an access list: int perms, ustring scheme, ustring id
abbrev pub wire_acls : Form WireAcl
wire_acls = seen (λ t. record { perms = t.0; scheme = t.1.0; id = t.1.1 }) (λ a. (a.perms, (a.scheme, a.id))) (unsigned_ints ⊗ (texts ⊗ texts))

-- ---- a node's numbers, in three parts

-- long czxid, long mzxid, long ctime, long mtime
abbrev pub times : Form (ℕ × (ℕ × (ℕ × ℕ)))
times = unsigned_longs ⊗ (unsigned_longs ⊗ (unsigned_longs ⊗ unsigned_longs))

-- int version, int cversion, int aversion
abbrev pub versions : Form (ℕ × (ℕ × ℕ))
versions = unsigned_ints ⊗ (unsigned_ints ⊗ unsigned_ints)

-- long ephemeralOwner, int dataLength, int numChildren, long pzxid
abbrev pub sizes : Form (ℕ × (ℕ × (ℕ × ℕ)))
sizes = unsigned_longs ⊗ (unsigned_ints ⊗ (unsigned_ints ⊗ unsigned_longs))

abbrev pub times_of : Stat → ℕ × (ℕ × (ℕ × ℕ))
times_of s = (s.czxid, (s.mzxid, (s.ctime, s.mtime)))

abbrev pub versions_of : Stat → ℕ × (ℕ × ℕ)
versions_of s = (s.version, (s.cversion, s.aversion))

abbrev pub sizes_of : Stat → ℕ × (ℕ × (ℕ × ℕ))
sizes_of s = (s.owner, (s.len, (s.kids, s.pzxid)))

abbrev pub stats : Form Stat
stats = seen (λ t. record { czxid = t.0.0; mzxid = t.0.1.0; pzxid = t.1.1.1.1.1; ctime = t.0.1.1.0; mtime = t.0.1.1.1; version = t.1.0.0; cversion = t.1.0.1.0; aversion = t.1.0.1.1; owner = t.1.1.0; len = t.1.1.1.0; kids = t.1.1.1.1.0 }) (λ s. (times_of s, (versions_of s, sizes_of s))) (times ⊗ (versions ⊗ sizes))

-- ---- whole packets

-- a refusal of a field is one of the record, at the same place
abbrev pub wire_fail : JuteFail → WireFail
wire_fail jute.NoMemory = wire.NoMemory
wire_fail (jute.Short at) = wire.BadRecord at
wire_fail (jute.BadLength at) = wire.BadRecord at
wire_fail (jute.BadByte at) = wire.BadRecord at

abbrev pub refused_as : {A : Type 0} → Result A JuteFail → Result A WireFail
refused_as (Ok v) = Ok v
refused_as (Err e) = Err (wire_fail e)

-- the refusal is that of the reading, where it isn't for want of memory
abbrev pub Refuses : {A : Type 0} → WireFail → Result A JuteFail → Type 0
Refuses wire.NoMemory read = Unit {0}
Refuses (wire.BadRecord at) read = refused_as read ≡ Err (wire.BadRecord at)

-- a call answers what the reading gives, unless memory ran out
abbrev pub Tells : {A : Type 0} → Result A WireFail → Result A JuteFail → Type 0
Tells (Ok v) read = read ≡ Ok v
Tells (Err e) read = Refuses e read

-- the bytes are the packet of the value, which has one
abbrev pub Sends : {A : Type 0} → Form A → A → List ℕ → Type 0
Sends f v bytes = (packets f).Fits v × (bytes ≡ (packets f).spell v)

-- ---- lists up to an end mark

-- what stands in the list, without the mark
abbrev pub listed : {A : Type 0} → Form (Option A) → Form A
listed f = record { Fits = λ a. f.Fits (Some a); spell = λ a. f.spell (Some a); read = (present f).read }

-- values that were read before, and those that are read
abbrev pub behind_all : {A : Type 0} → List A → Result (List A × Place) JuteFail → Result (List A × Place) JuteFail
behind_all before read = read >>= λ x. Ok (before ++ x.0, x.1)
