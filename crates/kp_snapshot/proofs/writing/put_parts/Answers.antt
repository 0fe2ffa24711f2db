use Rattle.kp_snapshot.proofs.PartWrites.{parts_written}
use Rattle.kp_snapshot.proofs.writing.put_parts.Goals as goal

pub returns : goal.returns
returns g c =
    parts_written (g.V.View.state c.args.view.now) c.args.index c.args.term c.next_session-next.result c.put_tables.result c.args.out.now.items c.put_mark.new.out.items c.put_number.new.out.items c.put_number-2.new.out.items c.put_first.new.out.items c.put_tables.new.out.items
    c.next_session-next.ensures c.in_ok-put_mark.ensures c.in_ok-put_number.ensures c.in_ok-put_number-2.ensures c.in_ok-put_first.ensures c.put_tables.ensures
