use Rattle.std.proofs.Common.{refl}
use Rattle.kp_snapshot.specs.Images.{mark}
use Rattle.kp_snapshot.proofs.Parts.{parts_ok}
use Rattle.kp_snapshot.proofs.check.check_parts.Goals as goal

pub returns : goal.returns
returns c =
    let t = c.in_ok-check_tables.ensures in (
      (mark, (c.in_ok-index.index, (c.in_ok-term.term, (c.in_ok-next.next, t.0)))),
      parts_ok c.args.reader.now c.read_mark.new.reader c.read_number.new.reader c.read_number-2.new.reader c.read_next.new.reader c.check_tables.new.reader c.in_ok-index.index c.in_ok-term.term c.in_ok-next.next t.0 c.in_ok-read_mark.ensures c.in_ok-index.ensures.read c.in_ok-term.ensures.read c.in_ok-next.ensures.read t.1,
      (refl, refl),
    )
