use Rattle.std.proofs.Common.{arith, ap, ◌∙◌, ◌≡◌, List, [], ◌++◌, length, take}
use Rattle.kp_model.specs.LogEntry.{LogEntry}
use Rattle.kp_entry.specs.Heads.{voted, appended}
use Rattle.kp_entry.specs.Log.{with_entries, truncated}
use Rattle.kp_raftlog.proofs.Totals.{all_taken}
use Rattle.kp_raft.proofs.StepFacts.{own_steps}
use Rattle.kp_raft.proofs.raft.Raft.append_own.Goals as goal

pub returns-clause-ok : goal.returns-clause-ok
returns-clause-ok g c =
    let count : c.len-count.result ≡ length c.args.entries.now = c.len-count.ensures.len in
    let whole : take c.len-count.result c.args.entries.now ≡ c.args.entries.now = all_taken c.len-count.result c.args.entries.now (omega (arith, count)) in
    own_steps {I = g.row.I.Denot} c.args.self.now c.self.inside.node c.self.inside.members c.self.inside.term c.self.inside.vote c.self.inside.log c.replace.new.self c.self.inside.vars c.args.vars c.committed-self-inside.result _ c.args.term c.args.vote c.last-last.result _ c.ballot-ballot.result c.args.entries.now _ _ [] c.self.view_is c.last-last.ensures.index (c.in_ok-replace.ensures.ok ∙ ap (λ (es : List LogEntry). with_entries (truncated c.self.inside.log c.last-last.result) es) whole) c.ballot-ballot.ensures.record (c.in_ok-records.ensures ∙ ap (λ (es : List LogEntry). (voted c.ballot-ballot.result ++ []) ++ appended es) whole) count c.committed-self-inside.ensures.after c.new.ensures
