-- A log entry as bytes.
use Rattle.std.specs.Prelude.{ℕ, List, [], ◌∷◌}
use Rattle.kp_model.specs.declared.session.Origin.{Origin}
use Rattle.kp_model.specs.declared.command.Cmd.{Cmd}
use Rattle.kp_model.specs.declared.entry.Body.{Body}
use Rattle.kp_model.specs.declared.entry.Body.TheVariants as body
use Rattle.kp_model.specs.LogEntry.{LogEntry}
use Rattle.kp_entry.specs.declared.kinds.BodyKind.{BodyKind}
use Rattle.kp_entry.specs.declared.kinds.BodyKind.TheVariants as body_kind
use Rattle.kp_jute.specs.Form.{Reading, Form, ◌⊗◌, seen, tagged}
use Rattle.kp_entry.specs.Fields.{numbers, timeouts, passwords, kinds, read_of, units, origins}
use Rattle.kp_entry.specs.Commands.{cmds}

abbrev pub body_number : BodyKind → ℕ
body_number body_kind.Noop = 0
body_number body_kind.OpenSession = 1
body_number body_kind.Attach = 2
body_number body_kind.Expire = 3
body_number body_kind.Write = 4

abbrev pub body_kinds : List BodyKind
body_kinds = body_kind.Noop ∷ body_kind.OpenSession ∷ body_kind.Attach ∷ body_kind.Expire ∷ body_kind.Write ∷ []

abbrev pub BodyFields : BodyKind → Type 0
BodyFields body_kind.Noop = Unit {0}
BodyFields body_kind.OpenSession = ℕ × (List ℕ × Origin)
BodyFields body_kind.Attach = ℕ × (List ℕ × Origin)
BodyFields body_kind.Expire = ℕ
BodyFields body_kind.Write = ℕ × (ℕ × (ℕ × Cmd))

-- timeout, password and origin
abbrev pub openings : Form (ℕ × (List ℕ × Origin))
openings = timeouts ⊗ (passwords ⊗ origins)

-- session, password and origin
abbrev pub attachments : Form (ℕ × (List ℕ × Origin))
attachments = numbers ⊗ (passwords ⊗ origins)

-- session, epoch, running number and command
abbrev pub writes : Form (ℕ × (ℕ × (ℕ × Cmd)))
writes = numbers ⊗ (numbers ⊗ (numbers ⊗ cmds))

abbrev pub body_fields : (k : BodyKind) → Form (BodyFields k)
body_fields body_kind.Noop = units
body_fields body_kind.OpenSession = openings
body_fields body_kind.Attach = attachments
body_fields body_kind.Expire = numbers
body_fields body_kind.Write = writes

abbrev pub body_with : (k : BodyKind) → BodyFields k → Body
body_with body_kind.Noop t = body.Noop
body_with body_kind.OpenSession t = body.OpenSession t.0 t.1.0 t.1.1
body_with body_kind.Attach t = body.Attach t.0 t.1.0 t.1.1
body_with body_kind.Expire t = body.Expire t
body_with body_kind.Write t = body.Write t.0 t.1.0 t.1.1.0 t.1.1.1

abbrev pub body_to : (k : BodyKind) × BodyFields k → Body
body_to t = body_with t.0 t.1

abbrev pub body_from : Body → (k : BodyKind) × BodyFields k
body_from body.Noop = (body_kind.Noop, tt)
body_from (body.OpenSession timeout passwd origin) = (body_kind.OpenSession, (timeout, (passwd, origin)))
body_from (body.Attach session passwd origin) = (body_kind.Attach, (session, (passwd, origin)))
body_from (body.Expire session) = (body_kind.Expire, session)
body_from (body.Write session epoch seq c) = (body_kind.Write, (session, (epoch, (seq, c))))

-- what an entry of this kind asks for, from its fields
unfoldable pub body_in : BodyKind → Reading Body
body_in k p = read_of body_fields body_with k p

abbrev pub bodies : Form Body
bodies = seen body_to body_from (tagged (kinds body_kinds body_number) body_fields)

-- term, time and body
abbrev pub entries : Form LogEntry
entries = seen (λ t. record { term = t.0; time = t.1.0; body = t.1.1 }) (λ e. (e.term, (e.time, e.body))) (numbers ⊗ (numbers ⊗ bodies))
