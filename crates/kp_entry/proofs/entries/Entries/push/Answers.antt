use Rattle.std.proofs.Common.{ap, ◌∙◌, ◌≡◌, ◌++◌, ◌∷◌, []}
use Rattle.kp_model.specs.LogEntry.{LogEntry}
use Rattle.kp_entry.proofs.Spelled.{ok_then, written_entry}
use Rattle.kp_entry.proofs.entries.Entries.push.Goals as goal

pub returns-clause-ok : goal.returns-clause-ok
returns-clause-ok c =
    let is = written_entry c.deref.result.now c.put_entry.new.out.items c.new-bytes.result.items c.args.entry.now c.in_ok-put_entry.ensures c.new-bytes.ensures.items c.deref.ensures.value in
    ok_then c.push_spelled.result (λ e. e ∙ ap (λ (x : LogEntry). c.args.self.now ++ x ∷ []) is) c.push_spelled.ensures.ok
