use Rattle.std.proofs.Common.{ap, sym, ◌∙◌}
use Rattle.std.specs.Option.{option_copied}
use Rattle.kp_prep.specs.Ledgers.{nodes_behind}
use Rattle.kp_prep.proofs.Changes.{renumbered_none, refilled_again}
use Rattle.kp_act.proofs.Acts.{if_same}
use Rattle.kp_prep.proofs.deciding.renumbered.Goals as goal

pub returns-in-None : goal.returns-in-None
returns-in-None g c = renumbered_none (nodes_behind (g.V.View.state c.args.view.now) c.args.ledger.now.changes) c.args.path.now c.args.meta (sym (ap option_copied c.in-None.is) ∙ c.content.ensures)

pub returns-in_ok-from_slice-in-Some : goal.returns-in_ok-from_slice-in-Some
returns-in_ok-from_slice-in-Some g c = if_same c.refilled.result _ _ (refilled_again (nodes_behind (g.V.View.state c.args.view.now) c.args.ledger.now.changes) c.args.path.now c.from_vec-bytes.result c.in-Some.bytes.now c.args.meta (c.from_vec-bytes.ensures ∙ c.in_ok-from_slice-in-Some.ensures.items) (sym (ap option_copied c.in-Some.is) ∙ c.content.ensures)) c.refilled.ensures
