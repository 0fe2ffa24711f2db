use Rattle.std.proofs.Common.{◌≡◌, ◌≤◌, ◌^◌, arith}
use Rattle.kp_entry.specs.Spellings.{entry_of}
use Rattle.kp_entry.proofs.Spelled.{term_is, term_there, term_small}
use Rattle.kp_entry.proofs.entries.spelled_term.Goals as goal

pub returns-in-Ok-clause-term : goal.returns-in-Ok-clause-term
returns-in-Ok-clause-term c = term_is c.args.bytes.now c.new.result c.in-Ok.term _ c.requires c.new.ensures c.in-Ok.ensures.read

pub returns-in-Ok-clause-range : goal.returns-in-Ok-clause-range
returns-in-Ok-clause-range c =
    let is : c.in-Ok.term ≡ (entry_of c.args.bytes.now).term = term_is c.args.bytes.now c.new.result c.in-Ok.term _ c.requires c.new.ensures c.in-Ok.ensures.read in
    let small : (entry_of c.args.bytes.now).term ≤ 2 ^ 62 = term_small c.args.bytes.now c.requires in
    omega (arith, is, small)

pub returns-in-Err-clause-term : goal.returns-in-Err-clause-term
returns-in-Err-clause-term c = absurd (term_there c.args.bytes.now c.new.result c.in-Err.fail c.requires c.new.ensures c.in-Err.ensures.of_bytes c.in-Err.ensures.read)
