use Rattle.kp_snapshot.specs.Snapshots.{snapshot_of}
use Rattle.kp_snapshot.proofs.Parts.{whole_of}
use Rattle.kp_snapshot.proofs.check.check.Goals as goal

pub returns-clause-read : goal.returns-clause-read
returns-clause-read c =
    let t = c.in_ok-head.ensures in
    (snapshot_of t.0, whole_of c.args.bytes.now c.new-reader.result c.check_parts.new.reader t.0 tt c.new-reader.ensures t.1 c.in_ok-end.ensures.read, t.2)
