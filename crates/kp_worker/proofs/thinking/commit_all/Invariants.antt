use Rattle.kp_shared.specs.Nodes.{IsNodeTurn}
use Rattle.kp_worker.proofs.Thoughts.{SoFar}
use Rattle.kp_worker.proofs.thinking.commit_all.Given as goal

abbrev pub invariant-loop : goal.invariant-loop
invariant-loop g l = record {
  seat : IsNodeTurn (λ s. g.K.Kept.life s.kept) l.turn l.seat;
  commits : SoFar (g.C.Clock.may l.clock) l.fn.seat l.seat l.fn.notes.items l.notes.items;
}
