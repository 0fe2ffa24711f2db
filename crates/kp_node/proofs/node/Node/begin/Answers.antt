use Rattle.std.proofs.Common.{◌≤◌, subst}
use Rattle.kp_entry.specs.Log.{last_index}
use Rattle.kp_node.specs.Parts.{parts}
use Rattle.kp_node.proofs.FirstFed.{first_fed, first_fed_holds}
use Rattle.kp_node.proofs.node.Node.begin.Goals as goal

pub invariant_of-self-in-Taken : goal.invariant_of-self-in-Taken
invariant_of-self-in-Taken c = first_fed_holds (parts c.self.inside.raft c.self.inside.storage c.self.inside.seats c.self.inside.watches c.self.inside.expiry c.self.inside.spoken c.self.inside.boot c.self.inside.events) c.args.now c.args.conn c.args.bytes.now _ c.take_early_at.new.raft c.take_early_at.new.storage c.take_early_at.new.seats _ c.in-Ok.first c.in-Taken.taken _ c.ground_at-ground.ensures c.in_ok-idle.ensures c.gather.ensures c.in-Taken.is c.in-Ok.ensures.ok
    _ c.self.view_is c.self.invariant c.requires.events c.requires.phase (subst (λ i. i ≤ last_index c.self.inside.raft.held.log) c.commit-commit.ensures.index c.commit-commit.ensures.to)

pub returns-in-Taken-clause-ok : goal.returns-in-Taken-clause-ok
returns-in-Taken-clause-ok c = first_fed (parts c.self.inside.raft c.self.inside.storage c.self.inside.seats c.self.inside.watches c.self.inside.expiry c.self.inside.spoken c.self.inside.boot c.self.inside.events) c.args.now c.args.conn c.args.bytes.now _ c.take_early_at.new.raft c.take_early_at.new.storage c.take_early_at.new.seats _ c.in-Ok.first c.in-Taken.taken _ c.ground_at-ground.ensures c.in_ok-idle.ensures c.gather.ensures c.in-Taken.is c.in-Ok.ensures.ok
    _ c.self.view_is c.requires.phase
