use Rattle.std.proofs.Common.{◌≡◌, ◌≤◌, ◌+◌}
use Rattle.kp_model.specs.Store.{last}
use Rattle.kp_top.specs.Loading.{IsWithin, loaded}
use Rattle.kp_top.proofs.Loads.{rest_of, lines_left}
use Rattle.kp_top.proofs.load.take_all.Given as goal

abbrev pub invariant-loop-line : goal.invariant-loop-line
invariant-loop-line l = record {
  rest : rest_of l.lines (record { work = l.work; n = l.n; tally = l.tally }) ≡ loaded l.fn.lines.number l.fn.lines.left;
  within : IsWithin l.n (last l.work.store) l.tally;
  few : l.n + lines_left l.lines l.work.store.unapplied ≤ 8589934593;
}

abbrev pub decreases-loop-line : goal.decreases-loop-line
decreases-loop-line l = lines_left l.lines l.work.store.unapplied
