use Rattle.std.proofs.Common.{ap, ◌∙◌, ◌≡◌, ◌≤◌, length, take, map, List, ℕ, arith}
use Rattle.kp_entry.specs.declared.record.Record.{Record}
use Rattle.kp_entry.specs.Spellings.{record_of}
use Rattle.kp_entry.proofs.Runs.{records_taken, take_listed}
use Rattle.kp_entry.proofs.records.Records.keep.Goals as goal

pub invariant_of-self : goal.invariant_of-self
invariant_of-self c = records_taken c.args.count c.self.inside.pieces.strings c.truncate.new.self.strings c.self.inside.base c.self.invariant c.truncate.ensures

pub returns-then-count-len : goal.returns-then-count-len
returns-then-count-len c =
    let le : c.args.count ≤ length c.self.inside.pieces.strings = omega (arith, c.len.ensures.count, c.if-count-len.true) in
    ap (λ (ss : List (List ℕ)). map record_of ss) c.truncate.ensures ∙ take_listed c.args.count c.self.inside.pieces.strings c.self.inside.base le ∙ ap (λ (rs : List Record). take c.args.count rs) c.self.view_is
