use Rattle.kp_shared.specs.Nodes.{IsNodeTurn}
use Rattle.kp_shared.proofs.TurnCalls.{CommitsSoFar}
use Rattle.kp_shared.proofs.turns.commit_more.Given as goal

abbrev pub invariant-loop : goal.invariant-loop
invariant-loop g l = record {
  seat : IsNodeTurn (λ s. g.K.Kept.life s.kept) l.turn l.seat;
  commits : CommitsSoFar (g.C.Clock.may l.clock) l.fn.batch.items l.batch.items l.fn.seat l.seat;
}
