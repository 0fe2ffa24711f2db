use Rattle.std.proofs.Common.{ap, sym, ◌∙◌}
use Rattle.std.specs.Option.{option_copied}
use Rattle.kp_prep.specs.Ledgers.{nodes_behind}
use Rattle.kp_prep.proofs.Changes.{relisted_none, relisted_some}
use Rattle.kp_prep.proofs.deciding.relisted.Goals as goal

pub returns-in-None : goal.returns-in-None
returns-in-None g c = relisted_none (nodes_behind (g.V.View.state c.args.view.now) c.args.ledger.now.changes) c.args.path.now c.args.acl c.args.meta (sym (ap option_copied c.in-None.is) ∙ c.content.ensures)

pub returns-in_ok-from_slice-in-Some : goal.returns-in_ok-from_slice-in-Some
returns-in_ok-from_slice-in-Some g c = relisted_some (nodes_behind (g.V.View.state c.args.view.now) c.args.ledger.now.changes) c.args.path.now c.from_vec.result c.in-Some.bytes.now c.args.acl c.args.meta (c.from_vec.ensures ∙ c.in_ok-from_slice-in-Some.ensures.items) (sym (ap option_copied c.in-Some.is) ∙ c.content.ensures)
