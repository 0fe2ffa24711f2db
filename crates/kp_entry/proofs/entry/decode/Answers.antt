use Rattle.std.proofs.Common.{arith}
use Rattle.kp_entry.proofs.EntryLaws.{is_found, is_only}
use Rattle.kp_entry.proofs.entry.decode.Goals as goal

pub returns-clause-found : goal.returns-clause-found
returns-clause-found c = is_found c.args.bytes.now c.decoded.result (λ i. omega (arith, c.type_inv.bytes i)) c.decoded.ensures

pub returns-clause-only : goal.returns-clause-only
returns-clause-only c = λ e more fits parts. is_only e more c.args.bytes.now c.decoded.result fits parts c.decoded.ensures
