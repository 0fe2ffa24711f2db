use Rattle.kp_worker.proofs.Gathered.{adds_mail, adds_quiet}
use Rattle.kp_event.specs.declared.event.NodeEventKind.TheVariants as kind
use Rattle.kp_worker.proofs.Lists.{receives_none}
use Rattle.std.proofs.Common.{◌∙◌, ◌++◌, ap, [], ◌∷◌}
use Rattle.kp_worker.proofs.gathering.deliver_one.Goals as goal

pub returns-then-is_err : goal.returns-then-is_err
returns-then-is_err g c = record { adds = λ o. adds_quiet o (g.I.Inbox.taken c.args.inbox.now) (g.I.Inbox.taken c.args.inbox.now) c.args.kinds.now.items c.reserve.new.self.items (receives_none (g.I.Inbox.taken c.args.inbox.now)) c.reserve.ensures.items }

pub returns-in-Some : goal.returns-in-Some
returns-in-Some g c = record { adds = λ o. adds_mail o (g.I.Inbox.taken c.args.inbox.now) (g.I.Inbox.taken c.take.new.self) c.args.kinds.now.items c.deliver.new.kinds.items c.in-Some.arrived.from c.in-Some.arrived.mail c.in-Some.ensures (c.deliver.ensures.kinds ∙ ap (λ l. l ++ kind.Deliver c.in-Some.arrived.mail ∷ []) c.reserve.ensures.items) }

pub returns-in-None : goal.returns-in-None
returns-in-None g c = record { adds = λ o. adds_quiet o (g.I.Inbox.taken c.args.inbox.now) (g.I.Inbox.taken c.take.new.self) c.args.kinds.now.items c.reserve.new.self.items c.in-None.ensures c.reserve.ensures.items }
