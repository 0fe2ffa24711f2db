use Rattle.std.proofs.Common.{sym, ◌∙◌, subst}
use Rattle.kp_jute.specs.Form.{Gives}
use Rattle.kp_wire.proofs.PacketSteps.{event_is, reply_is}
use Rattle.kp_wire.proofs.packet.read_answer.Goals as goal

pub returns-then-fires : goal.returns-then-fires
returns-then-fires c =
    let h = c.in_ok-header.header in
    subst (λ r. Gives (λ x. x) c.read_fired.result c.read_fired.new.reader r) (sym (event_is c.args.shape c.args.reader.now c.read_header.new.reader h.xid h.zxid c.in_ok-header.ensures (sym c.fires.ensures ∙ c.if-fires.true))) c.read_fired.ensures

pub returns : goal.returns
returns c =
    let h = c.in_ok-header.header in
    subst (λ r. Gives (λ x. x) c.read_asked.result c.read_asked.new.reader r) (sym (reply_is c.args.shape c.args.reader.now c.read_header.new.reader h.xid h.zxid c.in_ok-header.ensures (sym c.fires.ensures ∙ c.if-fires.false))) c.read_asked.ensures
