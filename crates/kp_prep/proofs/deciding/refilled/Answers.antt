use Rattle.std.proofs.Common.{ap, sym, ◌∙◌}
use Rattle.std.specs.Option.{option_copied}
use Rattle.kp_prep.specs.Ledgers.{nodes_behind}
use Rattle.kp_prep.proofs.Changes.{refilled_none, refilled_some}
use Rattle.kp_prep.proofs.deciding.refilled.Goals as goal

pub returns-in-None : goal.returns-in-None
returns-in-None g c = refilled_none (nodes_behind (g.V.View.state c.args.view.now) c.args.ledger.now.changes) c.args.path.now c.args.bytes c.args.meta (sym (ap option_copied c.in-None.is) ∙ c.acl.ensures)

pub returns-in_ok-copied_acl-in-Some : goal.returns-in_ok-copied_acl-in-Some
returns-in_ok-copied_acl-in-Some g c = refilled_some (nodes_behind (g.V.View.state c.args.view.now) c.args.ledger.now.changes) c.args.path.now c.bytes.inside.inner.items c.args.bytes c.args.meta c.in_ok-copied_acl-in-Some.field-0 c.in-Some.acl.now c.bytes.view_is c.in_ok-copied_acl-in-Some.ensures (sym (ap option_copied c.in-Some.is) ∙ c.acl.ensures)
