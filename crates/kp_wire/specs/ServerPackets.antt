-- What the server sends: a packet of a header with an xid, a zxid and a code, and a body.
use Rattle.std.specs.Prelude.{◌&&◌, ℤ, pos, negsuc, Bool, Some, Ok, if◌then◌else◌}
use Rattle.std.specs.Ordering.{int_eq}
use Rattle.kp_jute.specs.Form.{Reading, ◌>>=◌, Form, ◌⊗◌, seen, narrowed, tagged}
use Rattle.kp_jute.specs.Jute.{ints, longs, fixed_ints, packets}
use Rattle.kp_model.specs.declared.reply.Event.{Event}
use Rattle.kp_wire.specs.declared.reply.Shape.{Shape}
use Rattle.kp_wire.specs.declared.reply.WireReply.{WireReply}
use Rattle.kp_wire.specs.declared.packet.Packet.{Packet}
use Rattle.kp_wire.specs.declared.packet.Packet.TheVariants as packet
use Rattle.kp_wire.specs.Events.{events}
use Rattle.kp_wire.specs.Replies.{replies}

-- what the xid and the zxid tell: -1 and -1 that a watch fired, others that a request is answered
pub data Cause : Type 0 where
  fired : Cause
  asked : ℤ → ℤ → Cause

-- what a header tells
abbrev pub cause_of : ℤ × ℤ → Cause
cause_of h = if int_eq h.0 (negsuc 0) && int_eq h.1 (negsuc 0) then fired else asked h.0 h.1

-- and back
abbrev pub header_of : Cause → ℤ × ℤ
header_of fired = (negsuc 0, negsuc 0)
header_of (asked xid zxid) = (xid, zxid)

-- int xid, long zxid
abbrev pub headers : Form (ℤ × ℤ)
headers = ints ⊗ longs

-- the header, as what it tells
abbrev pub causes : Form Cause
causes = narrowed (λ h. Some (cause_of h)) header_of headers

-- what stands behind the header
abbrev pub CauseHeld : Cause → Type 0
CauseHeld fired = Unit {0} × Event
CauseHeld (asked xid zxid) = WireReply

-- behind -1 and -1 the code 0 and an event, else a reply
abbrev pub cause_bodies : Shape → (c : Cause) → Form (CauseHeld c)
cause_bodies s fired = fixed_ints (pos 0) ⊗ events
cause_bodies s (asked xid zxid) = replies s

-- the packet of a header and what stands behind it
abbrev pub packet_of : (c : Cause) × CauseHeld c → Packet
packet_of (fired, h) = packet.Event h.1
packet_of (asked xid zxid, r) = packet.Reply xid zxid r

-- and back
abbrev pub cause_in : Packet → (c : Cause) × CauseHeld c
cause_in (packet.Event e) = (fired, (tt, e))
cause_in (packet.Reply xid zxid r) = (asked xid zxid, r)

-- an event, or a reply to a request whose replies have the shape
abbrev pub answers : Shape → Form Packet
answers s = seen packet_of cause_in (tagged causes (cause_bodies s))

-- how an event is read behind its xid and zxid
abbrev pub event_answers : Reading Packet
event_answers p = (fixed_ints (pos 0) ⊗ events).read p >>= λ h. Ok (packet.Event h.0.1, h.1)

-- the same of a reply with that xid and zxid
abbrev pub reply_answers : Shape → ℤ → ℤ → Reading Packet
reply_answers s xid zxid p = (replies s).read p >>= λ r. Ok (packet.Reply xid zxid r.0, r.1)

-- the xid and the zxid of an event
abbrev pub is_event : ℤ → ℤ → Bool
is_event xid zxid = int_eq xid (negsuc 0) && int_eq zxid (negsuc 0)

-- the record with its length in front
abbrev pub server_packets : Shape → Form Packet
server_packets s = packets (answers s)
