use Rattle.kp_node.proofs.Asked.{commit_ends, proposed_holds, proposed_so, proposed_count}
use Rattle.kp_node.proofs.node.Node.propose.Goals as goal

pub invariant_of-self-2 : goal.invariant_of-self-2
invariant_of-self-2 c = proposed_holds _ _ c.self.view_is c.self.invariant (commit_ends _ _ _ c.commit-commit.ensures.index c.commit-commit.ensures.to) _ _ _ _ _ c.in_ok-out.ensures.ok c.requires

pub returns-clause-ok : goal.returns-clause-ok
returns-clause-ok c = proposed_so _ _ c.self.view_is c.self.invariant (commit_ends _ _ _ c.commit-commit.ensures.index c.commit-commit.ensures.to) _ _ _ _ _ c.in_ok-out.ensures.ok

pub returns-clause-count : goal.returns-clause-count
returns-clause-count c = proposed_count _ _ c.self.view_is c.self.invariant (commit_ends _ _ _ c.commit-commit.ensures.index c.commit-commit.ensures.to) _ _ _ _ _ c.in_ok-out.ensures.ok
