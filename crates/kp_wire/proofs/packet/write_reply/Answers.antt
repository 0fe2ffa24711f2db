use Rattle.std.proofs.Common.{◌≡◌, ℤ, ap, subst, ◌∙◌}
use Rattle.std.specs.Int.{w32, w64, cast_signed}
use Rattle.std.proofs.lemmas.Int.{to_z-of_z}
use Rattle.kp_wire.specs.declared.packet.Header.{Header}
use Rattle.kp_wire.specs.declared.packet.Packet.TheVariants as packet
use Rattle.kp_wire.specs.Common.{Sends}
use Rattle.kp_wire.specs.ServerPackets.{answers}
use Rattle.kp_wire.proofs.packet.write_reply.Goals as goal

abbrev numbers : ℤ → ℤ → Header
numbers xid zxid = record { xid = xid; zxid = zxid }

pub returns-in-Ok : goal.returns-in-Ok
returns-in-Ok c =
    let is : c.numbered.result ≡ numbers c.args.xid (cast_signed w64 c.args.zxid) = c.numbered.ensures ∙ ap (λ (x : ℤ). numbers x (cast_signed w64 c.args.zxid)) (to_z-of_z w32 c.args.xid c.ranges.xid) in
    λ s shape. subst (λ (m : Header). Sends (answers s) (packet.Reply m.xid m.zxid c.args.reply.now) c.in-Ok.bytes) is (c.in-Ok.ensures s shape)
