use Rattle.std.proofs.Common.{arith}
use Rattle.kp_jute.specs.Form.{whole}
use Rattle.kp_jute.proofs.AtEnd.{at_end}
use Rattle.kp_wire.specs.Connects.{connect_answer_packets}
use Rattle.kp_wire.proofs.ConnectLaws.{connect_answer_packets_lawful}
use Rattle.kp_wire.proofs.Whole.{found_in, only_in, exact_in}
use Rattle.kp_wire.proofs.connect.read_connect_reply.Goals as goal

pub returns-clause-found : goal.returns-clause-found
returns-clause-found c = rw c.told.ensures (found_in connect_answer_packets (at_end connect_answer_packets connect_answer_packets_lawful) c.args.frame.now (λ i. omega (arith, c.type_inv.frame i)) c.whole_reply.result c.whole_reply.ensures)

pub returns-clause-only : goal.returns-clause-only
returns-clause-only c = rw c.told.ensures (only_in connect_answer_packets (at_end connect_answer_packets connect_answer_packets_lawful) c.args.frame.now c.whole_reply.result c.whole_reply.ensures)

pub returns-clause-exact : goal.returns-clause-exact
returns-clause-exact c = rw c.told.ensures (exact_in c.whole_reply.result (whole connect_answer_packets c.args.frame.now) c.whole_reply.ensures)
