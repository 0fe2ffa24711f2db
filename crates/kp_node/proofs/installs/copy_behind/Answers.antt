use Rattle.kp_node.proofs.Installed.{one_more}
use Rattle.kp_node.proofs.installs.copy_behind.Goals as goal

pub loop-place-preserved : goal.loop-place-preserved
loop-place-preserved c = one_more c.args.raft.now.held.log c.args.index c.requires.there _ _ _ c.loop-place.auto.place c.loop-place.invariant c.in_ok-push_entry.ensures
