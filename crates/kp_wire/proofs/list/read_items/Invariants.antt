use Rattle.std.proofs.Common.{◌≡◌, ◌-◌}
use Rattle.kp_jute.specs.Jute.{items_at}
use Rattle.kp_jute.proofs.Loops.{with_front}
use Rattle.kp_wire.proofs.list.read_items.Given as goal

abbrev pub invariant-loop : goal.invariant-loop
invariant-loop g l = with_front l.items.items (items_at g.T.Element.form.read (l.count - l.counter) l.reader) ≡ items_at g.T.Element.form.read l.count l.fn.reader
