use Rattle.kp_snapshot.proofs.Filling.{parts_poured}
use Rattle.kp_snapshot.proofs.pouring.pour_parts.Goals as goal

pub returns-clause-set : goal.returns-clause-set
returns-clause-set g c = parts_poured c.args.reader.now c.read_mark.new.reader c.read_number.new.reader c.read_number-2.new.reader c.read_next.new.reader c.pour_tables.new.reader c.in_ok-index.index c.in_ok-_term._term c.in_ok-next.next (g.F.Fill.state c.args.into.now) (g.F.Fill.state c.start.new.self) (g.F.Fill.state c.pour_tables.new.into) c.pour_tables.result c.in_ok-read_mark.ensures c.in_ok-index.ensures.read c.in_ok-_term.ensures.read c.in_ok-next.ensures.read c.start.ensures.set c.pour_tables.ensures.set
