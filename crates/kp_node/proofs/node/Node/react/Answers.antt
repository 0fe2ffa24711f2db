use Rattle.std.proofs.Common.{◌≤◌, subst}
use Rattle.kp_entry.specs.Log.{last_index}
use Rattle.kp_node.proofs.Reacted.{reacted_holds}
use Rattle.kp_node.proofs.node.Node.react.Goals as goal

pub invariant_of-self-2 : goal.invariant_of-self-2
invariant_of-self-2 c = reacted_holds _ c.args.event c.args.may_rise c.args.lead _ _ _ _ _ _ _ _ _ _ _ _ _ c.self.view_is c.self.invariant c.requires.foreseen c.requires.events
    (subst (λ i. i ≤ last_index c.self.inside.raft.held.log) c.commit-commit.ensures.index c.commit-commit.ensures.to)
    c.in-Ok-step_raft.ensures.ok c.in-Ok-step_raft.ensures.led c.in-Ok-step_raft.ensures.storage c.term-term.ensures.term c.term.ensures.term c.applied-zxid.ensures c.rise_if-turned.ensures
