use Rattle.kp_prep.proofs.Ledgered.{on_ok_then}
use Rattle.kp_prep.proofs.deciding.push_effect.Goals as goal

pub returns-in_ok-push_up-in-Make-clause-ledger : goal.returns-in_ok-push_up-in-Make-clause-ledger
returns-in_ok-push_up-in-Make-clause-ledger g c = on_ok_then c.change.result c.change.ensures.ledger (λ kept. kept (g.V.View.state c.args.view.now) c.in_ok-push_up-in-Make.ensures.ledger)

pub returns-in_ok-push_up-in-Remove-clause-ledger : goal.returns-in_ok-push_up-in-Remove-clause-ledger
returns-in_ok-push_up-in-Remove-clause-ledger g c = on_ok_then c.change-in-Remove.result c.change-in-Remove.ensures.ledger (λ kept. kept (g.V.View.state c.args.view.now) c.in_ok-push_up-in-Remove.ensures.ledger)

pub returns-in_ok-node-in-Set-clause-ledger : goal.returns-in_ok-node-in-Set-clause-ledger
returns-in_ok-node-in-Set-clause-ledger g c = on_ok_then c.push_node.result c.push_node.ensures.ledger (λ kept. kept (g.V.View.state c.args.view.now) c.requires.ledger)

pub returns-in_ok-node-in-SetAcl-clause-ledger : goal.returns-in_ok-node-in-SetAcl-clause-ledger
returns-in_ok-node-in-SetAcl-clause-ledger g c = on_ok_then c.push_node-in-SetAcl.result c.push_node-in-SetAcl.ensures.ledger (λ kept. kept (g.V.View.state c.args.view.now) c.requires.ledger)
