use Rattle.std.proofs.Common.{arith}
use Rattle.kp_jute.specs.Form.{whole}
use Rattle.kp_jute.specs.Jute.{packets}
use Rattle.kp_wire.specs.Request.{requests}
use Rattle.kp_wire.proofs.RequestLaws.{request_packets_at_end}
use Rattle.kp_wire.proofs.Whole.{found_in, only_in, exact_in}
use Rattle.kp_wire.proofs.read.read_request.Goals as goal

pub returns-clause-found : goal.returns-clause-found
returns-clause-found c = rw c.told.ensures (found_in (packets requests) request_packets_at_end c.args.frame.now (λ i. omega (arith, c.type_inv.frame i)) c.whole_request.result c.whole_request.ensures)

pub returns-clause-only : goal.returns-clause-only
returns-clause-only c = rw c.told.ensures (only_in (packets requests) request_packets_at_end c.args.frame.now c.whole_request.result c.whole_request.ensures)

pub returns-clause-exact : goal.returns-clause-exact
returns-clause-exact c = rw c.told.ensures (exact_in c.whole_request.result (whole (packets requests) c.args.frame.now) c.whole_request.ensures)
