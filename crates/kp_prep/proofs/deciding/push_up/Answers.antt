use Rattle.kp_prep.proofs.Ledgered.{on_ok_then}
use Rattle.kp_prep.proofs.deciding.push_up.Goals as goal

pub returns-in_ok-from_str-in-Some-clause-ledger : goal.returns-in_ok-from_str-in-Some-clause-ledger
returns-in_ok-from_str-in-Some-clause-ledger g c = on_ok_then c.push_node.result c.push_node.ensures.ledger (λ kept. kept (g.V.View.state c.args.view.now) c.requires.ledger)
