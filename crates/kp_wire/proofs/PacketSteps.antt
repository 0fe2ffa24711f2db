-- How a packet's record is read behind its xid and zxid.
use Rattle.std.proofs.Common.{◌≡◌, ℤ, pos, true, false, cond, Result, Ok, Err, refl, ap, ◌∙◌}
use Rattle.kp_jute.specs.declared.fault.JuteFail.{JuteFail}
use Rattle.kp_jute.specs.Form.{Place, ◌>>=◌, ◌⊗◌}
use Rattle.kp_jute.specs.Jute.{fixed_ints}
use Rattle.kp_model.specs.declared.reply.Event.{Event}
use Rattle.kp_wire.specs.declared.reply.Shape.{Shape}
use Rattle.kp_wire.specs.declared.reply.WireReply.{WireReply}
use Rattle.kp_wire.specs.declared.packet.Packet.{Packet}
use Rattle.kp_wire.specs.declared.packet.Packet.TheVariants as packet
use Rattle.kp_wire.specs.Events.{events}
use Rattle.kp_wire.specs.Replies.{replies}
use Rattle.kp_wire.specs.ServerPackets.{Cause, fired, asked, CauseHeld, cause_bodies, packet_of, headers, answers, event_answers, reply_answers, is_event}

-- what is behind a cause, as a packet
abbrev shown : (c : Cause) → Result (CauseHeld c × Place) JuteFail → Result (Packet × Place) JuteFail
shown c read =
    let paired : CauseHeld c × Place → Result (((c : Cause) × CauseHeld c) × Place) JuteFail = λ y. Ok ((c, y.0), y.1) in
    read >>= paired >>= λ x. Ok (packet_of x.0, x.1)

event_regroup : (m : Result ((Unit {0} × Event) × Place) JuteFail) → shown fired m ≡ (m >>= λ h. Ok (packet.Event h.0.1, h.1))
event_regroup (Ok x) = refl
event_regroup (Err e) = refl

reply_regroup : (xid zxid : ℤ) (m : Result (WireReply × Place) JuteFail) → shown (asked xid zxid) m ≡ (m >>= λ r. Ok (packet.Reply xid zxid r.0, r.1))
reply_regroup xid zxid (Ok x) = refl
reply_regroup xid zxid (Err e) = refl

abbrev begun : Shape → Cause → Place → Result (Packet × Place) JuteFail
begun s c q = shown c ((cause_bodies s c).read q)

header_is : (s : Shape) (p r : Place) (xid zxid : ℤ) → headers.read p ≡ Ok ((xid, zxid), r) → (answers s).read p ≡ begun s (cond (is_event xid zxid) fired (asked xid zxid)) r
header_is s p r xid zxid h = rw h refl

pub event_is : (s : Shape) (p r : Place) (xid zxid : ℤ) → headers.read p ≡ Ok ((xid, zxid), r) → is_event xid zxid ≡ true → (answers s).read p ≡ event_answers r
event_is s p r xid zxid h is = header_is s p r xid zxid h ∙ ap (λ b. begun s (cond b fired (asked xid zxid)) r) is ∙ event_regroup ((fixed_ints (pos 0) ⊗ events).read r)

pub reply_is : (s : Shape) (p r : Place) (xid zxid : ℤ) → headers.read p ≡ Ok ((xid, zxid), r) → is_event xid zxid ≡ false → (answers s).read p ≡ reply_answers s xid zxid r
reply_is s p r xid zxid h is = header_is s p r xid zxid h ∙ ap (λ b. begun s (cond b fired (asked xid zxid)) r) is ∙ reply_regroup xid zxid ((replies s).read r)
