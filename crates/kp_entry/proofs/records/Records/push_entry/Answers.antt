use Rattle.std.proofs.Common.{ap, ◌∙◌, ◌++◌, ◌∷◌, []}
use Rattle.kp_model.specs.LogEntry.{LogEntry}
use Rattle.kp_entry.specs.declared.record.Record.{Record}
use Rattle.kp_entry.specs.declared.record.Record.TheVariants as record_
use Rattle.kp_entry.proofs.Spelled.{ok_then, written, written_entry}
use Rattle.kp_entry.proofs.Runs.{append_fits, append_read}
use Rattle.kp_entry.proofs.records.Records.push_entry.Goals as goal

pub add-requires-clause-spelled : goal.add-requires-clause-spelled
add-requires-clause-spelled c = append_fits c.deref.result.now (c.args.entry.now, c.in_ok-put_entry.ensures.fits, written c.deref.result.now c.put_entry.new.out.items c.new-bytes.result.items c.args.entry.now c.in_ok-put_entry.ensures c.new-bytes.ensures.items c.deref.ensures.value)

pub returns-clause-ok : goal.returns-clause-ok
returns-clause-ok c =
    let read = append_read c.deref.result.now (c.args.entry.now, c.in_ok-put_entry.ensures.fits, written c.deref.result.now c.put_entry.new.out.items c.new-bytes.result.items c.args.entry.now c.in_ok-put_entry.ensures c.new-bytes.ensures.items c.deref.ensures.value) in
    let is = written_entry c.deref.result.now c.put_entry.new.out.items c.new-bytes.result.items c.args.entry.now c.in_ok-put_entry.ensures c.new-bytes.ensures.items c.deref.ensures.value in
    ok_then c.add.result (λ e. e ∙ ap (λ (r : Record). c.args.self.now ++ r ∷ []) (read ∙ ap (λ (x : LogEntry). record_.Append x) is)) c.add.ensures.ok
