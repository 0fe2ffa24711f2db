use Rattle.std.proofs.Common.{Some, None, slice_get, ap, sym, ◌∙◌}
use Rattle.std.specs.Option.{option_copied}
use Rattle.kp_prep.specs.Ledgers.{value_in}
use Rattle.kp_prep.proofs.Ledgered.{acl_of_view, acl_of_change}
use Rattle.kp_prep.proofs.ledger.acl.Goals as goal

pub returns-in-None : goal.returns-in-None
returns-in-None g c = c.acl.ensures ∙ acl_of_view (g.V.View.state c.args.view.now) c.args.ledger.now.changes c.args.ledger.now.places.entries c.args.path.now c.requires (sym (ap option_copied c.in-None.is) ∙ c.get.ensures.value)

pub returns-in-None-value_at : goal.returns-in-None-value_at
returns-in-None-value_at g c = acl_of_change (g.V.View.state c.args.view.now) c.args.ledger.now.changes c.args.ledger.now.places.entries c.args.path.now c.in-Some.place.now None c.requires (sym (ap option_copied c.in-Some.is) ∙ c.get.ensures.value) (sym (ap option_copied c.in-None-value_at.is) ∙ c.value_at.ensures ∙ ap (λ cs. value_in (slice_get cs c.in-Some.place.now)) c.as_slice.ensures)

pub returns-in-Some-value_at : goal.returns-in-Some-value_at
returns-in-Some-value_at g c = ap Some c.as_slice-in-Some-value_at.ensures ∙ acl_of_change (g.V.View.state c.args.view.now) c.args.ledger.now.changes c.args.ledger.now.places.entries c.args.path.now c.in-Some.place.now (Some c.in-Some-value_at.node.now) c.requires (sym (ap option_copied c.in-Some.is) ∙ c.get.ensures.value) (sym (ap option_copied c.in-Some-value_at.is) ∙ c.value_at.ensures ∙ ap (λ cs. value_in (slice_get cs c.in-Some.place.now)) c.as_slice.ensures)
