use Rattle.std.proofs.Common.{sym, ◌∙◌}
use Rattle.kp_node.proofs.Delivered.{body_so, body_plain_so}
use Rattle.kp_node.proofs.node.Node.deliver_body.Goals as goal

pub returns-then-may_propose-clause-ok : goal.returns-then-may_propose-clause-ok
returns-then-may_propose-clause-ok c = body_so c.args.now _ _ _ c.args.term c.args.from c.args.body (sym (c.may_propose.ensures c.args.body) ∙ c.if-may_propose.true) c.forwarded.ensures.ok

pub returns-clause-ok : goal.returns-clause-ok
returns-clause-ok c = body_plain_so c.args.now _ _ _ c.args.term c.args.from c.args.body (sym (c.may_propose.ensures c.args.body) ∙ c.if-may_propose.false) c.deliver_plain.ensures.ok
