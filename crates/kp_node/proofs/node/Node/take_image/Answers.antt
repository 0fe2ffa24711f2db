use Rattle.kp_node.specs.Parts.{parts}
use Rattle.kp_node.proofs.Replaced.{left_looked, moved_so_at, moved_so_holds}
use Rattle.kp_node.proofs.node.Node.take_image.Goals as goal

pub leave_if-turned-requires-clause-looked : goal.leave_if-turned-requires-clause-looked
leave_if-turned-requires-clause-looked c = left_looked (parts c.self.inside.raft c.self.inside.storage c.self.inside.seats c.self.inside.watches c.self.inside.expiry c.self.inside.spoken c.self.inside.boot c.self.inside.events) c.args.now c.args.sending _ _ _ _ c.in-Ok-install.ensures.ok _ _ c.term-term.ensures.term c.term.ensures.term _ _ _ _ c.may_leave-may_leave.ensures c.is_some-taken.ensures c.in-Ok.ensures

pub invariant_of-self-2 : goal.invariant_of-self-2
invariant_of-self-2 c = moved_so_holds _ c.args.now c.args.sending _ _ _ _ c.in-Ok-install.ensures.ok _ _ c.term-term.ensures.term c.term.ensures.term _ _ _ _ _ _ _ _ c.applied-zxid.ensures c.is_some-taken.ensures c.leave_if-turned.ensures c.gather.ensures.moved c.gather.ensures.spoken _ c.self.view_is c.self.invariant c.requires.events

pub returns-clause-ok : goal.returns-clause-ok
returns-clause-ok c = moved_so_at _ c.args.now c.args.sending _ _ _ _ c.in-Ok-install.ensures.ok _ _ c.term-term.ensures.term c.term.ensures.term _ _ _ _ _ _ _ _ c.applied-zxid.ensures c.is_some-taken.ensures c.leave_if-turned.ensures c.gather.ensures.moved c.gather.ensures.spoken _ c.self.view_is
