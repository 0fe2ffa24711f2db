use Rattle.std.proofs.Common.{nat_lt, Some, None, ap, ◌∙◌}
use Rattle.std.specs.Prelude.{if◌then◌else◌}
use Rattle.kp_node.proofs.Mild.{mail_foreseen}
use Rattle.kp_node.proofs.foreseen.foresee_mail.Goals as goal

pub returns : goal.returns
returns c = mail_foreseen c.args.raft.now c.args.mail.now _ _ c.requires (λ i. nat_lt (c.term.ensures.term i) (c.term_of.ensures i))
    (c.lead_of.ensures.lead ∙ ap (λ z. if z then Some c.args.raft.now.held.term else None) c.may_elect-may_lead.ensures) c.lead_of.ensures.fits
