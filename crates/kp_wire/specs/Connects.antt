-- The connect request and the connect reply.
use Rattle.std.specs.Prelude.{◌==◌, ℕ, ℤ, pos, Bool, true, false, List, length, Option, Some, None, if◌then◌else◌}
use Rattle.kp_jute.specs.Form.{Form, ◌⊗◌, seen, narrowed, if_any}
use Rattle.kp_jute.specs.Jute.{ints, longs, booleans, buffers, unsigned_ints, unsigned_longs, fixed_ints, fixed_booleans, packets}
use Rattle.kp_wire.specs.declared.connect.ConnectRequest.{ConnectRequest}
use Rattle.kp_wire.specs.declared.connect.ConnectReply.{ConnectReply}

-- the fields up to the session number
abbrev pub session_asks : Form (ℤ × (ℤ × (ℤ × ℤ)))
session_asks = ints ⊗ (longs ⊗ (ints ⊗ longs))

-- passwd, and readOnly where bytes are left
abbrev pub secrets : Form (Option (List ℕ) × Option Bool)
secrets = buffers ⊗ if_any booleans

-- protocolVersion, lastZxidSeen, timeOut, sessionId, passwd, and readOnly where the record goes on
abbrev pub connects : Form ConnectRequest
connects = seen (λ t. record { protocol = t.0.0; zxid = t.0.1.0; timeout = t.0.1.1.0; session = t.0.1.1.1; passwd = t.1.0; read_only = t.1.1 }) (λ c. ((c.protocol, (c.zxid, (c.timeout, c.session))), (c.passwd, c.read_only))) (session_asks ⊗ secrets)

-- the request with its length in front
abbrev pub connect_packets : Form ConnectRequest
connect_packets = packets connects

-- a password is 16 bytes
abbrev pub password_in : Option (List ℕ) → Option (List ℕ)
password_in None = None
password_in (Some bytes) = if length bytes == 16 then Some bytes else None

-- a buffer of 16 bytes; any other is refused at its length
abbrev pub passwords : Form (List ℕ)
passwords = narrowed password_in (λ bytes. Some bytes) buffers

-- the boolean 0, or nothing
abbrev pub is_there : Option (Unit {0}) → Bool
is_there None = false
is_there (Some u) = true

-- and back
abbrev pub there_if : Bool → Option (Unit {0})
there_if false = None
there_if true = Some tt

-- whether the boolean 0 ends the record
abbrev pub flags : Form Bool
flags = seen is_there there_if (if_any (fixed_booleans false))

-- int 0, timeOut, sessionId, passwd, and the boolean 0 where the request had readOnly
abbrev pub connect_answers : Form ConnectReply
connect_answers = seen (λ t. record { timeout = t.1.0; session = t.1.1.0; passwd = t.1.1.1.0; with_read_only = t.1.1.1.1 }) (λ c. (tt, (c.timeout, (c.session, (c.passwd, c.with_read_only))))) (fixed_ints (pos 0) ⊗ (unsigned_ints ⊗ (unsigned_longs ⊗ (passwords ⊗ flags))))

-- the reply with its length in front
abbrev pub connect_answer_packets : Form ConnectReply
connect_answer_packets = packets connect_answers
