use Rattle.std.proofs.Common.{ap, sym, ◌∙◌, ◌++◌, ◌∷◌, [], List, append-nil, slice_get}
use Rattle.kp_model.specs.LogEntry.{LogEntry}
use Rattle.kp_entry.specs.declared.record.Record.{Record}
use Rattle.kp_entry.specs.Heads.{appended}
use Rattle.kp_entry.proofs.Spelled.{bytes_there, entry_there, none_there, ok_then}
use Rattle.kp_entry.proofs.Runs.{append_fits, append_read, one_taken, none_taken}
use Rattle.kp_entry.proofs.records.Records.append_at.Goals as goal

pub add-requires-clause-spelled : goal.add-requires-clause-spelled
add-requires-clause-spelled c = append_fits c.in-Some.bytes.now (bytes_there c.in-Some.bytes.now (slice_get c.args.from.now c.args.index) c.in-Some.ensures.bytes c.in-Some.ensures.fits)

pub returns-in-None-clause-ok : goal.returns-in-None-clause-ok
returns-in-None-clause-ok c =
    let none = none_taken c.args.from.now c.args.index (none_there (slice_get c.args.from.now c.args.index) c.in-None.ensures.bytes) in
    sym (append-nil c.args.self.now) ∙ ap (λ (es : List LogEntry). c.args.self.now ++ appended es) (sym none)

pub returns-in-Some-clause-ok : goal.returns-in-Some-clause-ok
returns-in-Some-clause-ok c =
    let read = append_read c.in-Some.bytes.now (bytes_there c.in-Some.bytes.now (slice_get c.args.from.now c.args.index) c.in-Some.ensures.bytes c.in-Some.ensures.fits) in
    let one = one_taken c.args.from.now c.args.index _ (entry_there c.in-Some.bytes.now (slice_get c.args.from.now c.args.index) c.in-Some.ensures.bytes c.in-Some.ensures.fits) in
    ok_then c.add.result (λ e. e ∙ ap (λ (r : Record). c.args.self.now ++ r ∷ []) read ∙ ap (λ (es : List LogEntry). c.args.self.now ++ appended es) (sym one)) c.add.ensures.ok
