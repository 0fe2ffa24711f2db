use Rattle.std.proofs.Common.{subst}
use Rattle.kp_node.specs.Proposing.{AtDesk, Does, proposed_to}
use Rattle.kp_node.proofs.proposing.propose_taken.Goals as goal

pub returns-in-Ok-clause-ok : goal.returns-in-Ok-clause-ok
returns-in-Ok-clause-ok c = record {
  does = subst (λ l. Does (proposed_to c.args.raft.now c.args.now l) c.args.raft.now c.in-Ok.out c.propose_all.new.raft) c.in_ok-taken.ensures.taken c.in-Ok.ensures.ok;
  desk = (c.in_ok-taken.ensures.desk.0, subst (λ l. AtDesk c.args.storage.now c.args.raft.now.held.term c.args.now c.take_wanted.new.storage l c.in_ok-taken.ensures.desk.0) c.in_ok-taken.ensures.taken c.in_ok-taken.ensures.desk.1);
}
