use Rattle.std.proofs.Common.{◌≤◌, subst}
use Rattle.kp_entry.specs.Log.{last_index}
use Rattle.kp_node.proofs.Fed.{live_given}
use Rattle.kp_node.proofs.node.Node.client_live.Goals as goal

pub returns-clause-ok : goal.returns-clause-ok
returns-clause-ok c = live_given c.args.now c.args.conn c.args.session c.args.bytes.now _ _ _ _ _ c.self.view_is c.self.invariant
    (subst (λ i. i ≤ last_index c.self.inside.raft.held.log) c.commit-commit.ensures.index c.commit-commit.ensures.to)
    c.requires.session c.in_ok-read.ensures.ok c.give_read.ensures
