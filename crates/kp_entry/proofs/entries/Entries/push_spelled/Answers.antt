use Rattle.std.proofs.Common.{◌≡◌, ◌<◌, length, arith}
use Rattle.kp_entry.proofs.Spelled.{entries_pushed}
use Rattle.kp_entry.proofs.entries.Entries.push_spelled.Goals as goal

pub invariant_of-self : goal.invariant_of-self
invariant_of-self c =
    let few : length c.self.inside.pieces.strings < 4294967295 = omega (arith, c.len.ensures.count, c.if-len-ge-LONGEST_FIELD.false) in
    entries_pushed c.push.result c.self.inside.pieces.strings c.push.new.self.strings c.args.bytes.now c.self.invariant c.requires few c.push.ensures.ok c.push.ensures.err
