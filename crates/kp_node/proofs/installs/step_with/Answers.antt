use Rattle.kp_node.proofs.Installed.{installs_so}
use Rattle.kp_node.proofs.installs.step_with.Goals as goal

pub returns-in-Ok-step_ready-clause-ok : goal.returns-in-Ok-step_ready-clause-ok
returns-in-Ok-step_ready-clause-ok c = λ now made. installs_so c.args.raft.now c.ready.new.self c.args.storage.now c.args.sending c.requires.agrees c.requires.whole c.in-Ok.ensures.ok now c.args.made made c.args.expiry.now _ _ c.in-Ok-step_ready.ensures.ok c.in-Ok-step_ready.ensures.image _ _ c.put.ensures.storage c.put.ensures.expiry
