use Rattle.kp_node.proofs.Asked.{at_expire_due}
use Rattle.kp_node.proofs.Delivered.{at_deliver}
use Rattle.kp_node.proofs.Committed.{at_commit_one}
use Rattle.kp_node.proofs.Fed.{at_client}
use Rattle.kp_node.proofs.Chosen.{of_all, if_all, if_some}
use Rattle.kp_node.proofs.Events.{at_accept, at_hangup, at_drain, at_timeout, at_beat, at_snapshot}
use Rattle.kp_node.specs.Facts.{words}
use Rattle.kp_node.specs.Parts.{node_of}
use Rattle.kp_node.proofs.node.Node.event.Goals as goal

pub returns-in-Accept-clause-ok : goal.returns-in-Accept-clause-ok
returns-in-Accept-clause-ok c = if_all c.args.self.now c.args.event _ c.in-Accept.is _ (λ ch. at_accept words ch (node_of c.args.self.now) c.args.event.now c.in-Accept.draw) _ _ c.accept.ensures.ok

pub returns-in-Client-clause-ok : goal.returns-in-Client-clause-ok
returns-in-Client-clause-ok c = if_some c.args.self.now c.args.event _ c.in-Client.is _ (λ ch. at_client words ch (node_of c.args.self.now) c.args.event.now c.in-Client.conn c.in-Client.bytes) _ _ c.take_piece.ensures.ok

pub returns-in-Hangup-clause-ok : goal.returns-in-Hangup-clause-ok
returns-in-Hangup-clause-ok c = of_all c.args.self.now c.args.event _ c.in-Hangup.is _ (λ ch. at_hangup words ch (node_of c.args.self.now) c.args.event.now c.in-Hangup.conn) _ _ c.hangup.ensures

pub returns-in-Drain-clause-ok : goal.returns-in-Drain-clause-ok
returns-in-Drain-clause-ok c = of_all c.args.self.now c.args.event _ c.in-Drain.is _ (λ ch. at_drain words ch (node_of c.args.self.now) c.args.event.now c.in-Drain.conn) _ _ c.drain.ensures

pub returns-in-Deliver-clause-ok : goal.returns-in-Deliver-clause-ok
returns-in-Deliver-clause-ok c = if_some c.args.self.now c.args.event _ c.in-Deliver.is _ (λ ch. at_deliver words ch (node_of c.args.self.now) c.args.event.now c.in-Deliver.mail) _ _ c.deliver.ensures.ok

pub returns-in-Timeout-clause-ok : goal.returns-in-Timeout-clause-ok
returns-in-Timeout-clause-ok c = if_some c.args.self.now c.args.event _ c.in-Timeout.is _ (λ ch. at_timeout words ch (node_of c.args.self.now) c.args.event.now) _ _ c.timeout.ensures.ok

pub returns-in-Beat-clause-ok : goal.returns-in-Beat-clause-ok
returns-in-Beat-clause-ok c = if_all c.args.self.now c.args.event _ c.in-Beat.is _ (λ ch. at_beat words ch (node_of c.args.self.now) c.args.event.now) _ _ c.beat.ensures.ok

pub returns-in-CommitOne-clause-ok : goal.returns-in-CommitOne-clause-ok
returns-in-CommitOne-clause-ok c = if_some c.args.self.now c.args.event _ c.in-CommitOne.is _ (λ ch. at_commit_one words ch (node_of c.args.self.now) c.args.event.now) _ _ c.commit_one.ensures.ok

pub returns-in-ExpireDue-clause-ok : goal.returns-in-ExpireDue-clause-ok
returns-in-ExpireDue-clause-ok c = if_all c.args.self.now c.args.event _ c.in-ExpireDue.is _ (λ ch. at_expire_due words ch (node_of c.args.self.now) c.args.event.now) _ _ c.expire_due.ensures.ok

pub returns-in-Snapshot-clause-ok : goal.returns-in-Snapshot-clause-ok
returns-in-Snapshot-clause-ok c = if_all c.args.self.now c.args.event _ c.in-Snapshot.is _ (λ ch. at_snapshot words ch (node_of c.args.self.now) c.args.event.now) _ _ c.snapshot.ensures.ok
