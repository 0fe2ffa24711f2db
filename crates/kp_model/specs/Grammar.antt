-- What stands in a log entry: numbers within their limits, and texts, data and lists that fit length fields of 32 bits.
use Rattle.std.specs.Prelude.{ℕ, Bool, true, ◌&&◌, ◌==◌, nat_le, List, length, IsTrue}
use Rattle.std.specs.List.{list_all}
use Rattle.kp_model.specs.declared.node.Acl.{Acl}
use Rattle.kp_model.specs.declared.session.Origin.{Origin}
use Rattle.kp_model.specs.declared.command.Op.{Op}
use Rattle.kp_model.specs.declared.command.Op.TheVariants as op
use Rattle.kp_model.specs.declared.command.Cmd.{Cmd}
use Rattle.kp_model.specs.declared.command.Cmd.TheVariants as cmd
use Rattle.kp_model.specs.declared.entry.Body.{Body}
use Rattle.kp_model.specs.declared.entry.Body.TheVariants as body
use Rattle.kp_model.specs.LogEntry.{LogEntry}

-- indexes, terms, times, sessions, epochs and running numbers are at most 2 ^ 62
abbrev pub is_number : ℕ → Bool
is_number n = nat_le n 4611686018427387904

-- a session's timeout in milliseconds
abbrev pub is_timeout : ℕ → Bool
is_timeout n = nat_le 10000 n && nat_le n 100000

abbrev pub is_origin : Origin → Bool
is_origin o = is_number o.boot && is_number o.conn

abbrev pub is_body : Body → Bool
is_body body.Noop = true
is_body (body.OpenSession timeout passwd origin) = is_timeout timeout && is_origin origin
is_body (body.Attach session passwd origin) = is_number session && is_origin origin
is_body (body.Expire session) = is_number session
is_body (body.Write session epoch seq c) = is_number session && (is_number epoch && is_number seq)

-- the numbers of an entry are within their limits
abbrev pub has_numbers : ℕ → ℕ → Body → Bool
has_numbers term time b = is_number term && (is_number time && is_body b)

-- a length that a field of 32 bits holds
abbrev pub is_length : ℕ → Bool
is_length n = nat_le n 4294967295

abbrev pub is_text : List ℕ → Bool
is_text t = is_length (length t)

abbrev pub fits_acl : Acl → Bool
fits_acl a = is_text a.scheme && is_text a.id

abbrev pub fits_acls : List Acl → Bool
fits_acls acl = is_length (length acl) && list_all fits_acl acl

abbrev pub fits_op : Op → Bool
fits_op (op.Create path bytes acl flags stat) = is_text path && (is_text bytes && fits_acls acl)
fits_op (op.Delete path version) = is_text path
fits_op (op.SetData path bytes version) = is_text path && is_text bytes
fits_op (op.Check path version) = is_text path

abbrev pub fits_cmd : Cmd → Bool
fits_cmd (cmd.Create path bytes acl flags stat) = is_text path && (is_text bytes && fits_acls acl)
fits_cmd (cmd.Delete path version) = is_text path
fits_cmd (cmd.SetData path bytes version) = is_text path && is_text bytes
fits_cmd (cmd.SetAcl path acl version) = is_text path && fits_acls acl
fits_cmd (cmd.Check path version) = is_text path
fits_cmd (cmd.Auth scheme auth) = is_text scheme && is_text auth
fits_cmd (cmd.Multi ops) = is_length (length ops) && list_all fits_op ops
fits_cmd (cmd.Sync path) = is_text path
fits_cmd cmd.CloseSession = true

-- each text, its data and each list fits its length field, and a password has 16 bytes
abbrev pub is_fitting : Body → Bool
is_fitting body.Noop = true
is_fitting (body.OpenSession timeout passwd origin) = length passwd == 16
is_fitting (body.Attach session passwd origin) = length passwd == 16
is_fitting (body.Expire session) = true
is_fitting (body.Write session epoch seq c) = fits_cmd c

-- an entry that can be written down
abbrev pub is_entry : LogEntry → Bool
is_entry e = has_numbers e.term e.time e.body && is_fitting e.body

abbrev pub IsEntry : LogEntry → Type 0
IsEntry e = IsTrue (is_entry e)
