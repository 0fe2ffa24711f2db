use Rattle.std.proofs.Common.{ap, ◌∙◌, ◌≡◌, ◌≤◌, ◌+◌, ◌-◌, ◌++◌, length, length-append, List, ℕ, arith}
use Rattle.std.specs.List.{concat}
use Rattle.kp_entry.proofs.Runs.{records_pushed}
use Rattle.kp_entry.proofs.records.Records.add.Goals as goal

pub invariant_of-self : goal.invariant_of-self
invariant_of-self c =
    let all : length c.bytes.result.now ≡ length (concat c.self.inside.pieces.strings) = ap (λ (x : List ℕ). length x) c.bytes.ensures in
    let few : length (c.args.head.now ++ c.args.tail.now) ≤ 4294967295 - length (concat c.self.inside.pieces.strings) = omega (arith, all, length-append c.args.head.now c.args.tail.now, c.if-head-tail.false) in
    records_pushed c.push.result c.self.inside.pieces.strings c.push.new.self.strings (c.args.head.now ++ c.args.tail.now) c.self.inside.base c.self.invariant c.requires.spelled few c.push.ensures.ok c.push.ensures.err
