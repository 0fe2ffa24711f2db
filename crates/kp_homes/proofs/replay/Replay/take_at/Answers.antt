use Rattle.std.proofs.Common.{List, ◌∙◌, ap}
use Rattle.std.specs.Prelude.{slice_get}
use Rattle.kp_entry.specs.declared.record.Record.{Record}
use Rattle.kp_homes.proofs.Ranges.{record_there}
use Rattle.kp_homes.proofs.Replaying.{place_there}
use Rattle.kp_homes.proofs.replay.Replay.take_at.Goals as goal

pub take_found-requires : goal.take_found-requires
take_found-requires c = record_there c.args.index c.records-records.result.now _ c.are_records.ensures c.in_ok-found.ensures

pub returns : goal.returns
returns c =
    c.take_found.ensures c.args.journal.now.run.records c.args.journal.now.run.places c.args.index (c.in_ok-found.ensures ∙ ap (λ (l : List Record). slice_get l c.args.index) c.records-records.ensures)
    (place_there c.args.index c.unwrap_or-place.result c.args.journal.now.run.places c.place.result c.place.ensures.place c.unwrap_or-place.ensures)
