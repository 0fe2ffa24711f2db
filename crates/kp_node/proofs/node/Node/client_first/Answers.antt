use Rattle.std.proofs.Common.{◌≤◌, subst}
use Rattle.kp_entry.specs.Log.{last_index}
use Rattle.kp_node.specs.Facts.{words}
use Rattle.kp_node.proofs.FirstFed.{read_given}
use Rattle.kp_node.proofs.node.Node.client_first.Goals as goal

pub returns-in-Read-clause-ok : goal.returns-in-Read-clause-ok
returns-in-Read-clause-ok c = read_given words c.args.now c.args.conn c.args.bytes.now _ _ _ c.in_ok-read.field-0 c.in-Read.read _ c.self.view_is c.self.invariant
    (subst (λ i. i ≤ last_index c.self.inside.raft.held.log) c.commit-commit.ensures.index c.commit-commit.ensures.to)
    c.in-Read.is c.in_ok-read.ensures.ok c.give_read.ensures
