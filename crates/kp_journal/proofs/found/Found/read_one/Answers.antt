use Rattle.std.proofs.Common.{◌-◌, ℕ, take, ◌∙◌, ap, arith, length-take}
use Rattle.kp_entry.specs.declared.record.Record.{Record}
use Rattle.kp_entry.specs.Spellings.{record_of}
use Rattle.kp_journal.specs.Frames.{one_at, then_run}
use Rattle.kp_journal.proofs.Reading.{was_read}
use Rattle.kp_journal.proofs.found.Found.read_one.Goals as goal

pub overflow_sub-len : goal.overflow_sub-len
overflow_sub-len c =
    (was_read c.rest-rest.result.now c.place-at.result c.place.result c.args.reader.now c.read_record.new.reader c.in_ok-record.record c.are_bytes.ensures c.rest-rest.ensures c.place-at.ensures c.place.ensures c.in_ok-record.ensures).0.order

pub slice_bounds-add-end : goal.slice_bounds-add-end
slice_bounds-add-end c =
    let w = was_read c.rest-rest.result.now c.place-at.result c.place.result c.args.reader.now c.read_record.new.reader c.in_ok-record.record c.are_bytes.ensures c.rest-rest.ensures c.place-at.ensures c.place.ensures c.in_ok-record.ensures in
    omega (arith, w.0.inside, length-take (c.place.result - c.place-at.result) c.rest-rest.result.now)

pub add-requires : goal.add-requires
add-requires c =
    let w = was_read c.rest-rest.result.now c.place-at.result c.place.result c.args.reader.now c.read_record.new.reader c.in_ok-record.record c.are_bytes.ensures c.rest-rest.ensures c.place-at.ensures c.place.ensures c.in_ok-record.ensures in
    (c.in_ok-record.record, w.0.fits, w.0.text)

pub returns-in-Ok : goal.returns-in-Ok
returns-in-Ok c =
    let w = was_read c.rest-rest.result.now c.place-at.result c.place.result c.args.reader.now c.read_record.new.reader c.in_ok-record.record c.are_bytes.ensures c.rest-rest.ensures c.place-at.ensures c.place.ensures c.in_ok-record.ensures in (
      c.in_ok-record.record,
      c.in_ok-record.ensures,
      c.in-Ok.ensures ∙ ap (λ (k : ℕ). then_run c.args.self.now (one_at k (record_of (take (c.place.result - c.place-at.result) c.rest-rest.result.now)))) c.place-at.ensures ∙ ap (λ (r : Record). then_run c.args.self.now (one_at c.args.reader.now.at r)) w.0.again,
      w.1,
    )
