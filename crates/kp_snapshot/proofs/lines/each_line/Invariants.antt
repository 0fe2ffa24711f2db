use Rattle.kp_snapshot.specs.Images.{lines}
use Rattle.std.proofs.Common.{◌≡◌, ◌-◌}
use Rattle.kp_jute.specs.Jute.{items_at}
use Rattle.kp_jute.proofs.Loops.{with_front}
use Rattle.kp_snapshot.proofs.lines.each_line.Given as goal

abbrev pub invariant-loop : goal.invariant-loop
invariant-loop l = with_front l.lines.items (items_at lines.read (l.count - l.counter) l.reader) ≡ items_at lines.read l.count l.fn.reader
