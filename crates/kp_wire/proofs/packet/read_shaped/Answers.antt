use Rattle.std.proofs.Common.{arith}
use Rattle.kp_jute.specs.Form.{whole}
use Rattle.kp_jute.proofs.AtEnd.{at_end}
use Rattle.kp_wire.specs.ServerPackets.{server_packets}
use Rattle.kp_wire.proofs.PacketLaws.{server_packets_lawful}
use Rattle.kp_wire.proofs.Whole.{found_in, only_in, exact_in}
use Rattle.kp_wire.proofs.packet.read_shaped.Goals as goal

pub returns-clause-found : goal.returns-clause-found
returns-clause-found c = rw c.told.ensures (found_in (server_packets c.args.shape) (at_end (server_packets c.args.shape) (server_packets_lawful c.args.shape)) c.args.frame.now (λ i. omega (arith, c.type_inv.frame i)) c.read_whole.result c.read_whole.ensures)

pub returns-clause-only : goal.returns-clause-only
returns-clause-only c = rw c.told.ensures (only_in (server_packets c.args.shape) (at_end (server_packets c.args.shape) (server_packets_lawful c.args.shape)) c.args.frame.now c.read_whole.result c.read_whole.ensures)

pub returns-clause-exact : goal.returns-clause-exact
returns-clause-exact c = rw c.told.ensures (exact_in c.read_whole.result (whole (server_packets c.args.shape) c.args.frame.now) c.read_whole.ensures)
