use Rattle.kp_node.proofs.Entering.{looked_so, taken_so_at, taken_so_holds}
use Rattle.kp_node.proofs.node.Node.take_entries.Goals as goal

pub rise_if-turned-requires-clause-looked : goal.rise_if-turned-requires-clause-looked
rise_if-turned-requires-clause-looked c = looked_so c.self.inside.raft c.append.new.raft c.args.mail.now _ _ _ _ c.in-Ok.ensures.ok c.self.inside.seats.seats c.in_ok-before.before _ _ c.term-term.ensures.term c.term.ensures.term c.in_ok-before.ensures

pub invariant_of-self-2 : goal.invariant_of-self-2
invariant_of-self-2 c = taken_so_holds _ c.args.mail.now _ _ _ _ _ _ _ _ _ _ _ _ _ _ c.in-Ok.ensures.ok c.term-term.ensures.term c.term.ensures.term c.applied-zxid.ensures c.rise_if-turned.ensures c.cut_at-cut.ensures c.gather.ensures.taken c.gather.ensures.spoken _ c.self.view_is c.self.invariant c.requires

pub returns-clause-ok : goal.returns-clause-ok
returns-clause-ok c = taken_so_at _ c.args.mail.now _ _ _ _ _ _ _ _ _ _ _ _ _ _ c.in-Ok.ensures.ok c.term-term.ensures.term c.term.ensures.term c.applied-zxid.ensures c.rise_if-turned.ensures c.cut_at-cut.ensures c.gather.ensures.taken c.gather.ensures.spoken _ c.self.view_is
