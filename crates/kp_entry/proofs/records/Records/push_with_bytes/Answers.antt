use Rattle.std.proofs.Common.{ap, ◌∙◌, ◌++◌, ◌∷◌, []}
use Rattle.kp_entry.specs.declared.record.Record.{Record}
use Rattle.kp_entry.proofs.Spelled.{ok_then}
use Rattle.kp_entry.proofs.Runs.{was_written, written_record}
use Rattle.kp_entry.proofs.records.Records.push_with_bytes.Goals as goal

pub add-requires-clause-spelled : goal.add-requires-clause-spelled
add-requires-clause-spelled c = was_written _ c.new-bytes.result.items c.put_record.new.out.items c.deref.result.now c.requires.no_base c.in_ok-put_record.ensures c.new-bytes.ensures.items c.deref.ensures.value

pub returns-clause-ok : goal.returns-clause-ok
returns-clause-ok c =
    let is = written_record _ c.new-bytes.result.items c.put_record.new.out.items c.deref.result.now c.requires.no_base c.in_ok-put_record.ensures c.new-bytes.ensures.items c.deref.ensures.value in
    ok_then c.add.result (λ e. e ∙ ap (λ (r : Record). c.args.self.now ++ r ∷ []) is) c.add.ensures.ok
