use Rattle.std.proofs.Common.{refl}
use Rattle.kp_worker.proofs.Gathered.{adds_both, adds_none}
use Rattle.kp_worker.proofs.gathering.deliver_all.Goals as goal

pub loop-init : goal.loop-init
loop-init g c = record { adds = λ o. adds_none o (g.I.Inbox.taken c.args.inbox.now) c.args.kinds.now.items c.args.kinds.now.items refl }

pub loop-preserved : goal.loop-preserved
loop-preserved g c = record {
  adds = λ o. adds_both o o o (g.I.Inbox.taken c.args.inbox.now) (g.I.Inbox.taken c.loop.inbox) (g.I.Inbox.taken c.deliver_one.new.inbox) 0 0 c.args.kinds.now.items c.loop.kinds.items c.deliver_one.new.kinds.items (c.loop.invariant.adds o) (c.deliver_one.ensures.adds o);
}

pub returns-then-not-deliver_one : goal.returns-then-not-deliver_one
returns-then-not-deliver_one g c = record {
  adds = λ o. adds_both o o o (g.I.Inbox.taken c.args.inbox.now) (g.I.Inbox.taken c.loop.inbox) (g.I.Inbox.taken c.deliver_one.new.inbox) 0 0 c.args.kinds.now.items c.loop.kinds.items c.deliver_one.new.kinds.items (c.loop.invariant.adds o) (c.deliver_one.ensures.adds o);
}
