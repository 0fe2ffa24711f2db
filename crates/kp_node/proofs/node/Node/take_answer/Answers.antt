use Rattle.std.proofs.Common.{ap, ◌∙◌}
use Rattle.kp_node.specs.Naming.{named_by}
use Rattle.kp_node.specs.Parts.{Parts}
use Rattle.kp_node.proofs.Naming.{known_so, answered_so}
use Rattle.kp_node.proofs.node.Node.take_answer.Goals as goal

pub hear_named-requires : goal.hear_named-requires
hear_named-requires c = known_so c.args.now c.args.answer.now _ _ _ _ c.in_ok-admitted.ensures.ok c.in_ok-admitted.ensures.rest _ c.bare-mail.ensures _ _ c.in-Ok.ensures.ok

pub returns-in-Ok-clause-ok : goal.returns-in-Ok-clause-ok
returns-in-Ok-clause-ok c = answered_so c.args.now c.args.answer.now _ _ _ _ c.in_ok-admitted.ensures.ok c.in_ok-admitted.ensures.rest _ c.bare-mail.ensures _ _ c.in-Ok.ensures.ok _ c.hear_named.ensures
    (c.named-sessions.ensures ∙ ap (λ (p : Parts). named_by p.member c.args.answer.now) c.self.view_is)
