use Rattle.std.proofs.Common.{◌-◌, ◌+◌, ◌∙◌, ap, subst, take}
use Rattle.std.specs.List.{AllByRecursion}
use Rattle.kp_entry.specs.Entries.{entries}
use Rattle.kp_entry.specs.Log.{Log, behind}
use Rattle.kp_raftlog.specs.Kept.{joined}
use Rattle.kp_raftlog.proofs.Adjacent.{lent_is, adjacent_fit}
use Rattle.kp_raftlog.proofs.log.RaftLog.bytes_behind.Goals as goal

pub returns-in-Some-clause-bytes : goal.returns-in-Some-clause-bytes
returns-in-Some-clause-bytes c = lent_is c.self.inside.region c.self.inside.base c.self.inside.base_term c.args.after _ c.args.count c.in-Some.bytes.now (ap (λ n. c.args.after - c.self.inside.base + n) c.first.ensures.mark) c.self.invariant.spelled c.in-Some.ensures ∙ ap (λ (l : Log). joined (take c.args.count (behind l c.args.after))) c.self.view_is

pub returns-in-Some-clause-fits : goal.returns-in-Some-clause-fits
returns-in-Some-clause-fits c = subst (λ (l : Log). AllByRecursion entries.Fits (take c.args.count (behind l c.args.after))) c.self.view_is (adjacent_fit c.self.inside.region c.self.inside.base c.self.inside.base_term c.args.after c.args.count c.self.invariant.spelled)
