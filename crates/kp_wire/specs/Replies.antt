-- Replies: the code, and behind the code 0 what a reply to that type of request holds.
use Rattle.std.specs.Prelude.{◌≡◌, ℕ, ℤ, pos, List, Some, Result, Ok, if◌then◌else◌}
use Rattle.std.specs.Ordering.{int_eq}
use Rattle.kp_jute.specs.declared.fault.JuteFail.{JuteFail}
use Rattle.kp_jute.specs.Form.{Place, Reading, ◌>>=◌, Form, Wrote, ◌⊗◌, seen, narrowed, present, tagged}
use Rattle.kp_jute.specs.Jute.{ints, texts, buffers, vectors, unsigned_ints}
use Rattle.kp_model.specs.declared.node.Acl.{Acl}
use Rattle.kp_wire.specs.declared.stat.Stat.{Stat}
use Rattle.kp_wire.specs.declared.reply.Shape.{Shape}
use Rattle.kp_wire.specs.declared.reply.Shape.TheVariants as shapes
use Rattle.kp_wire.specs.declared.reply.WireReply.{WireReply}
use Rattle.kp_wire.specs.declared.reply.WireReply.TheVariants as reply
use Rattle.kp_wire.specs.Partly.{nothing}
use Rattle.kp_wire.specs.Common.{stats}
use Rattle.kp_wire.specs.OpResults.{MultiReply, held, failed, multis}

-- which shape a reply has, by the type of the request; a type that has no row has no body
abbrev pub shape_of : ℤ → Shape
shape_of z = if int_eq z (pos 1) then shapes.Path else if int_eq z (pos 9) then shapes.Path else if int_eq z (pos 15) then shapes.PathStat else if int_eq z (pos 3) then shapes.Stat else if int_eq z (pos 5) then shapes.Stat else if int_eq z (pos 7) then shapes.Stat else if int_eq z (pos 4) then shapes.Data else if int_eq z (pos 6) then shapes.Acl else if int_eq z (pos 8) then shapes.Names else if int_eq z (pos 12) then shapes.NamesStat else if int_eq z (pos 14) then shapes.Multi else shapes.Empty

-- an entry of an access list, of which nothing is null
abbrev pub granted : Form Acl
granted = seen (λ t. record { perms = t.0; scheme = t.1.0; id = t.1.1 }) (λ a. (a.perms, (a.scheme, a.id))) (unsigned_ints ⊗ (present texts ⊗ present texts))

-- an access list that is not null
abbrev pub acl_lists : Form (List Acl)
acl_lists = present (vectors granted)

-- names, of which none is null
abbrev pub name_lists : Form (List (List ℕ))
name_lists = present (vectors (present texts))

-- what a reply of a shape holds
abbrev pub Held : Shape → Type 0
Held shapes.Empty = Unit {0}
Held shapes.Path = List ℕ
Held shapes.PathStat = List ℕ × Stat
Held shapes.Stat = Stat
Held shapes.Data = List ℕ × Stat
Held shapes.Acl = List Acl × Stat
Held shapes.Names = List (List ℕ)
Held shapes.NamesStat = List (List ℕ) × Stat
Held shapes.Multi = MultiReply

-- and its form
abbrev pub bodies : (s : Shape) → Form (Held s)
bodies shapes.Empty = nothing
bodies shapes.Path = present texts
bodies shapes.PathStat = present texts ⊗ stats
bodies shapes.Stat = stats
bodies shapes.Data = present buffers ⊗ stats
bodies shapes.Acl = acl_lists ⊗ stats
bodies shapes.Names = name_lists
bodies shapes.NamesStat = name_lists ⊗ stats
bodies shapes.Multi = multis

-- what the code tells: an error, or that a reply of the shape follows
pub data Outcome : Type 0 where
  refused : ℤ → Outcome
  granted_as : Shape → Outcome

-- what a code tells where a reply of the shape is awaited
abbrev pub outcome_of : Shape → ℤ → Outcome
outcome_of s z = if int_eq z (pos 0) then granted_as s else refused z

-- and back
abbrev pub code_in : Outcome → ℤ
code_in (refused z) = z
code_in (granted_as s) = pos 0

-- an int, as what it tells
abbrev pub outcomes : Shape → Form Outcome
outcomes s = narrowed (λ z. Some (outcome_of s z)) code_in ints

-- what stands behind the code
abbrev pub OutcomeHeld : Outcome → Type 0
OutcomeHeld (refused z) = Unit {0}
OutcomeHeld (granted_as s) = Held s

-- and its form
abbrev pub outcome_bodies : (o : Outcome) → Form (OutcomeHeld o)
outcome_bodies (refused z) = nothing
outcome_bodies (granted_as s) = bodies s

-- the results of a multi, as a reply
abbrev pub multi_reply : MultiReply → WireReply
multi_reply (held xs) = reply.Multi xs
multi_reply (failed zs) = reply.Failed zs

-- the reply of a code and what stands behind it
abbrev pub reply_of : (o : Outcome) × OutcomeHeld o → WireReply
reply_of (refused z, u) = reply.Err z
reply_of (granted_as shapes.Empty, u) = reply.Empty
reply_of (granted_as shapes.Path, path) = reply.Path path
reply_of (granted_as shapes.PathStat, h) = reply.PathStat h.0 h.1
reply_of (granted_as shapes.Stat, stat) = reply.Stat stat
reply_of (granted_as shapes.Data, h) = reply.Data h.0 h.1
reply_of (granted_as shapes.Acl, h) = reply.Acl h.0 h.1
reply_of (granted_as shapes.Names, names) = reply.Names names
reply_of (granted_as shapes.NamesStat, h) = reply.NamesStat h.0 h.1
reply_of (granted_as shapes.Multi, m) = multi_reply m

-- and back
abbrev pub outcome_in : WireReply → (o : Outcome) × OutcomeHeld o
outcome_in (reply.Err z) = (refused z, tt)
outcome_in reply.Empty = (granted_as shapes.Empty, tt)
outcome_in (reply.Path path) = (granted_as shapes.Path, path)
outcome_in (reply.PathStat path stat) = (granted_as shapes.PathStat, (path, stat))
outcome_in (reply.Stat stat) = (granted_as shapes.Stat, stat)
outcome_in (reply.Data bytes stat) = (granted_as shapes.Data, (bytes, stat))
outcome_in (reply.Acl acl stat) = (granted_as shapes.Acl, (acl, stat))
outcome_in (reply.Names names) = (granted_as shapes.Names, names)
outcome_in (reply.NamesStat names stat) = (granted_as shapes.NamesStat, (names, stat))
outcome_in (reply.Multi xs) = (granted_as shapes.Multi, held xs)
outcome_in (reply.Failed zs) = (granted_as shapes.Multi, failed zs)

-- a reply to a request whose replies have the shape
abbrev pub replies : Shape → Form WireReply
replies s = seen reply_of outcome_in (tagged (outcomes s) outcome_bodies)

-- a reply behind its code
abbrev pub reply_behind : (o : Outcome) → Reading WireReply
reply_behind o p =
    let paired : OutcomeHeld o × Place → Result (((o : Outcome) × OutcomeHeld o) × Place) JuteFail = λ y. Ok ((o, y.0), y.1) in
    (outcome_bodies o).read p >>= paired >>= λ x. Ok (reply_of x.0, x.1)

-- the same of a shape, by cases
abbrev pub shape_replies : Shape → Reading WireReply
shape_replies shapes.Empty = reply_behind (granted_as shapes.Empty)
shape_replies shapes.Path = reply_behind (granted_as shapes.Path)
shape_replies shapes.PathStat = reply_behind (granted_as shapes.PathStat)
shape_replies shapes.Stat = reply_behind (granted_as shapes.Stat)
shape_replies shapes.Data = reply_behind (granted_as shapes.Data)
shape_replies shapes.Acl = reply_behind (granted_as shapes.Acl)
shape_replies shapes.Names = reply_behind (granted_as shapes.Names)
shape_replies shapes.NamesStat = reply_behind (granted_as shapes.NamesStat)
shape_replies shapes.Multi = reply_behind (granted_as shapes.Multi)

-- the results of a multi, as they are read into a reply
abbrev pub multi_replies : Reading WireReply
multi_replies = reply_behind (granted_as shapes.Multi)

-- the shape that a reply has by itself
abbrev pub shape_in : WireReply → Shape
shape_in (reply.Err z) = shapes.Empty
shape_in reply.Empty = shapes.Empty
shape_in (reply.Path path) = shapes.Path
shape_in (reply.PathStat path stat) = shapes.PathStat
shape_in (reply.Stat stat) = shapes.Stat
shape_in (reply.Data bytes stat) = shapes.Data
shape_in (reply.Acl acl stat) = shapes.Acl
shape_in (reply.Names names) = shapes.Names
shape_in (reply.NamesStat names stat) = shapes.NamesStat
shape_in (reply.Multi xs) = shapes.Multi
shape_in (reply.Failed zs) = shapes.Multi

-- the reply may be one to a request whose replies have the shape
abbrev pub HasShape : Shape → WireReply → Type 0
HasShape s (reply.Err z) = Unit {0}
HasShape s r = shape_in r ≡ s

-- what a reply holds was written
abbrev pub WroteBody : WireReply → List ℕ → List ℕ → Type 0
WroteBody (reply.Err z) old new = ⊥
WroteBody reply.Empty old new = Wrote nothing tt old new
WroteBody (reply.Path path) old new = Wrote (present texts) path old new
WroteBody (reply.PathStat path stat) old new = Wrote (present texts ⊗ stats) (path, stat) old new
WroteBody (reply.Stat stat) old new = Wrote stats stat old new
WroteBody (reply.Data bytes stat) old new = Wrote (present buffers ⊗ stats) (bytes, stat) old new
WroteBody (reply.Acl acl stat) old new = Wrote (acl_lists ⊗ stats) (acl, stat) old new
WroteBody (reply.Names names) old new = Wrote name_lists names old new
WroteBody (reply.NamesStat names stat) old new = Wrote (name_lists ⊗ stats) (names, stat) old new
WroteBody (reply.Multi xs) old new = Wrote multis (held xs) old new
WroteBody (reply.Failed zs) old new = Wrote multis (failed zs) old new
