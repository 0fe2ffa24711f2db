use Rattle.kp_conn.proofs.Sent.{event_sent}
use Rattle.kp_conn.proofs.packets.write_event_packet.Goals as goal

pub returns : goal.returns
returns c = event_sent c.args.event.now c.write_event.result c.write_event.ensures
