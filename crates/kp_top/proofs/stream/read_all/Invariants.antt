use Rattle.std.proofs.Common.{◌≡◌, ◌<◌, ◌≤◌, ◌-◌, vec_len}
use Rattle.std.specs.Io.KnownBytes.{Consumes}
use Rattle.kp_top.proofs.stream.read_all.Given as goal

abbrev pub invariant-loop-count : goal.invariant-loop-count
invariant-loop-count g l = record {
  consumed : Consumes (g.S.Source.left l.fn.input) (g.S.Source.left l.input) l.text.items;
  small : vec_len l.text ≤ 67108864;
  room : 0 < vec_len l.piece;
  quiet : g.S.Source.faults l.input ≡ g.S.Source.faults l.fn.input;
}

abbrev pub decreases-loop-count : goal.decreases-loop-count
decreases-loop-count g l = 67108864 - vec_len l.text
