use Rattle.std.proofs.Common.{◌≤◌, subst, ap, ◌∙◌}
use Rattle.kp_entry.specs.Log.{last_index}
use Rattle.kp_step.specs.Committing.{hear}
use Rattle.kp_node.specs.Parts.{parts}
use Rattle.kp_node.proofs.Fed.{fed_at, fed_at_holds, serving_there}
use Rattle.kp_node.proofs.node.Node.take_bytes.Goals as goal

pub take_at-requires : goal.take_at-requires
take_at-requires c = serving_there _ _ c.self.view_is c.args.conn c.args.session c.requires.session

pub invariant_of-self-in-Ok-take_at : goal.invariant_of-self-in-Ok-take_at
invariant_of-self-in-Ok-take_at c = fed_at_holds (parts c.self.inside.raft c.self.inside.storage c.self.inside.seats c.self.inside.watches c.self.inside.expiry c.self.inside.spoken c.self.inside.boot c.self.inside.events) c.args.now c.args.conn c.args.session c.args.bytes.now _ c.take_at.new.raft c.take_at.new.storage c.take_at.new.watches c.take_at.new.seats c.hear_client.new.expiry c.hear_client.new.spoken _ c.in-Ok-take_at.taken _ c.ground_at-ground.ensures c.in_ok-idle.ensures (c.in-Ok.ensures.heard ∙ ap (λ s. hear c.args.now s c.self.inside.expiry c.args.session) c.committed.ensures) c.in-Ok.ensures.spoken.0 c.gather.ensures c.in-Ok-take_at.ensures.ok
    _ c.self.view_is c.self.invariant c.requires.events c.requires.session (subst (λ i. i ≤ last_index c.self.inside.raft.held.log) c.commit-commit.ensures.index c.commit-commit.ensures.to)

pub returns-in-Ok-take_at-clause-ok : goal.returns-in-Ok-take_at-clause-ok
returns-in-Ok-take_at-clause-ok c = fed_at (parts c.self.inside.raft c.self.inside.storage c.self.inside.seats c.self.inside.watches c.self.inside.expiry c.self.inside.spoken c.self.inside.boot c.self.inside.events) c.args.now c.args.conn c.args.session c.args.bytes.now _ c.take_at.new.raft c.take_at.new.storage c.take_at.new.watches c.take_at.new.seats c.hear_client.new.expiry c.hear_client.new.spoken _ c.in-Ok-take_at.taken _ c.ground_at-ground.ensures c.in_ok-idle.ensures (c.in-Ok.ensures.heard ∙ ap (λ s. hear c.args.now s c.self.inside.expiry c.args.session) c.committed.ensures) c.in-Ok.ensures.spoken.0 c.gather.ensures c.in-Ok-take_at.ensures.ok
    _ c.self.view_is c.requires.session
