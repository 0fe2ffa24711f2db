-- What kp_wire writes for every shape of replies, at the one shape that a packet is defined by.
use Rattle.std.proofs.Common.{◌≡◌, ℕ, ℤ, List, Result, Ok, Err, IfOk, refl}
use Rattle.std.specs.Int.{w64, cast_signed}
use Rattle.kp_model.specs.declared.reply.Event.{Event}
use Rattle.kp_wire.specs.Common.{Sends}
use Rattle.kp_wire.specs.Replies.{HasShape, shape_in}
use Rattle.kp_wire.specs.ServerPackets.{answers}
use Rattle.kp_wire.specs.declared.packet.Packet.TheVariants as packet
use Rattle.kp_wire.specs.declared.reply.Shape.{Shape}
use Rattle.kp_wire.specs.declared.reply.Shape.TheVariants as shapes
use Rattle.kp_wire.specs.declared.reply.WireReply.{WireReply}
use Rattle.kp_wire.specs.declared.reply.WireReply.TheVariants as reply
use Rattle.kp_conn.specs.Packets.{reply_packet, event_packet}

pub event_sent : {E : Type 0} (e : Event) (r : Result (List ℕ) E) → IfOk r (λ b. (s : Shape) → Sends (answers s) (packet.Event e) b) → IfOk r (λ b. b ≡ event_packet e)
unfolding event_packet
event_sent e (Ok b) h = (h shapes.Empty).1
event_sent e (Err x) h = tt

-- a reply has the shape that it has by itself
own_shape : (r : WireReply) → HasShape (shape_in r) r
own_shape (reply.Err z) = tt
own_shape reply.Empty = refl
own_shape (reply.Path path) = refl
own_shape (reply.PathStat path stat) = refl
own_shape (reply.Stat stat) = refl
own_shape (reply.Data bytes stat) = refl
own_shape (reply.Acl acl stat) = refl
own_shape (reply.Names names) = refl
own_shape (reply.NamesStat names stat) = refl
own_shape (reply.Multi xs) = refl
own_shape (reply.Failed zs) = refl

pub reply_sent : {E : Type 0} (xid : ℤ) (zxid : ℕ) (w : WireReply) (r : Result (List ℕ) E) → IfOk r (λ b. (s : Shape) → HasShape s w → Sends (answers s) (packet.Reply xid (cast_signed w64 zxid) w) b) → IfOk r (λ b. b ≡ reply_packet xid zxid w)
unfolding reply_packet
reply_sent xid zxid w (Ok b) h = (h (shape_in w) (own_shape w)).1
reply_sent xid zxid w (Err x) h = tt
