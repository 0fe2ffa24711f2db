use Rattle.std.proofs.Common.{List}
use Rattle.kp_shared.specs.Tasks.{Did}
use Rattle.kp_shared.specs.Sharing.{IsNodeSeatOf}
use Rattle.kp_worker.specs.Calls.{Works}
use Rattle.kp_worker.proofs.working.serve_node.Given as goal

abbrev pub invariant-loop : goal.invariant-loop
invariant-loop g l = record {
  seat : IsNodeSeatOf (λ s. g.K.Kept.life s.kept) l.node l.seat;
  works : (turns : List (List (Did _))) × Works (g.L.Lines.sees l.fn.lines) (g.L.Lines.sees l.lines) (g.I.Inbox.taken l.fn.inbox) (g.I.Inbox.taken l.inbox) (g.C.Clock.may l.clock) l.fn.seat l.seat turns;
}
