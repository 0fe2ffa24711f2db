-- The forms of what the server sends are lawful.
use Rattle.std.proofs.Common.{◌≡◌, ◌&&◌, ℤ, pos, negsuc, Bool, true, false, cond, Some, refl, sym, ap, ◌∙◌}
use Rattle.std.specs.Ordering.{int_eq}
use Rattle.kp_jute.specs.Form.{Lawful, ◌⊗◌, tagged}
use Rattle.kp_jute.specs.Jute.{ints, longs}
use Rattle.kp_jute.proofs.AtEnd.{at_end}
use Rattle.kp_jute.proofs.Cases.{narrowed_lawful, fixed_ints_lawful, tagged_lawful}
use Rattle.kp_jute.proofs.Combined.{◌&◌, seen_lawful}
use Rattle.kp_jute.proofs.Numbers.{ints_lawful, longs_lawful}
use Rattle.kp_jute.proofs.Packets.{packets_lawful}
use Rattle.kp_wire.specs.declared.reply.Shape.{Shape}
use Rattle.kp_wire.specs.declared.packet.Packet.{Packet}
use Rattle.kp_wire.specs.declared.packet.Packet.TheVariants as packet
use Rattle.kp_wire.specs.ServerPackets.{Cause, fired, asked, cause_of, header_of, causes, CauseHeld, cause_bodies, packet_of, cause_in, answers, server_packets}
use Rattle.kp_wire.proofs.PartLaws.{same_int, some_is}
use Rattle.kp_wire.proofs.EventLaws.{events_lawful}
use Rattle.kp_wire.proofs.ReplyLaws.{replies_lawful}

header_of_tests : (x z : ℤ) (a b : Bool) → (a ≡ true → x ≡ negsuc 0) → (b ≡ true → z ≡ negsuc 0) → header_of (cond (a && b) fired (asked x z)) ≡ (x, z)
header_of_tests x z true true is_x is_z = ap (λ (u : ℤ). (u, negsuc 0)) (sym (is_x refl)) ∙ ap (λ (u : ℤ). (x, u)) (sym (is_z refl))
header_of_tests x z true false is_x is_z = refl
header_of_tests x z false b is_x is_z = refl

header_back : (h : ℤ × ℤ) (c : Cause) → Some (cause_of h) ≡ Some c → header_of c ≡ h
header_back h c e = ap header_of (sym (some_is (cause_of h) c e)) ∙ header_of_tests h.0 h.1 (int_eq h.0 (negsuc 0)) (int_eq h.1 (negsuc 0)) (same_int h.0 (negsuc 0)) (same_int h.1 (negsuc 0))

causes_lawful : Lawful causes
causes_lawful = narrowed_lawful (λ h. Some (cause_of h)) header_of (ints ⊗ longs) header_back (ints_lawful & longs_lawful)

cause_bodies_lawful : (s : Shape) (c : Cause) → Lawful (cause_bodies s c)
cause_bodies_lawful s fired = fixed_ints_lawful (pos 0) & events_lawful
cause_bodies_lawful s (asked xid zxid) = replies_lawful s

there : (t : (c : Cause) × CauseHeld c) → cause_in (packet_of t) ≡ t
there (fired, h) = refl
there (asked xid zxid, r) = refl

back : (p : Packet) → packet_of (cause_in p) ≡ p
back (packet.Event e) = refl
back (packet.Reply xid zxid r) = refl

answers_lawful : (s : Shape) → Lawful (answers s)
answers_lawful s = seen_lawful packet_of cause_in (tagged causes (cause_bodies s)) there back (tagged_lawful causes (cause_bodies s) causes_lawful (cause_bodies_lawful s))

pub server_packets_lawful : (s : Shape) → Lawful (server_packets s)
server_packets_lawful s = packets_lawful (answers s) (at_end (answers s) (answers_lawful s))
