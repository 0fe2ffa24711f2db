use Rattle.kp_node.proofs.Delivered.{in_kind, image_so, plain_so, left_plain}
use Rattle.kp_node.proofs.node.Node.deliver.Goals as goal

pub deliver_plain-requires-clause-plain : goal.deliver_plain-requires-clause-plain
deliver_plain-requires-clause-plain c = left_plain c.args.mail c.in_default.not-Append c.in_default.not-AppendRep c.in_default.not-Install c.in_default.not-Forward

pub returns-in-Append-clause-ok : goal.returns-in-Append-clause-ok
returns-in-Append-clause-ok c = in_kind c.args.now _ _ _ c.args.mail _ c.in-Append.is c.deliver_append.ensures.ok

pub returns-in-AppendRep-clause-ok : goal.returns-in-AppendRep-clause-ok
returns-in-AppendRep-clause-ok c = in_kind c.args.now _ _ _ c.args.mail _ c.in-AppendRep.is c.deliver_answer.ensures.ok

pub returns-in-Install-clause-ok : goal.returns-in-Install-clause-ok
returns-in-Install-clause-ok c = in_kind c.args.now _ _ _ c.args.mail _ c.in-Install.is (image_so c.args.now _ _ _ _ c.install.ensures.ok)

pub returns-in-Forward-clause-ok : goal.returns-in-Forward-clause-ok
returns-in-Forward-clause-ok c = in_kind c.args.now _ _ _ c.args.mail _ c.in-Forward.is c.deliver_body.ensures.ok

pub returns-in_default-clause-ok : goal.returns-in_default-clause-ok
returns-in_default-clause-ok c = plain_so c.args.now _ _ _ c.args.mail c.in_default.not-Append c.in_default.not-AppendRep c.in_default.not-Install c.in_default.not-Forward c.deliver_plain.ensures.ok
