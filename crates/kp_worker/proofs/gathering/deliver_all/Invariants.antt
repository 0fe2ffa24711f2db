use Rattle.kp_worker.specs.Outside.{Outside}
use Rattle.kp_worker.specs.Calls.{Adds}
use Rattle.kp_worker.proofs.gathering.deliver_all.Given as goal

abbrev pub invariant-loop : goal.invariant-loop
invariant-loop g l = record {
  adds : (o : Outside) → Adds o o (g.I.Inbox.taken l.fn.inbox) (g.I.Inbox.taken l.inbox) 0 l.fn.kinds.items l.kinds.items;
}
