use Rattle.std.proofs.Common.{◌≡◌, ◌-◌}
use Rattle.kp_jute.specs.Jute.{until_at}
use Rattle.kp_wire.specs.Common.{behind_all}
use Rattle.kp_wire.proofs.marked.read_steps.Given as goal

abbrev pub invariant-loop : goal.invariant-loop
invariant-loop g l = behind_all l.items.items (until_at g.T.Marked.form.read (l.most - l.counter) l.reader) ≡ behind_all l.fn.before.items (until_at g.T.Marked.form.read l.most l.fn.reader)
