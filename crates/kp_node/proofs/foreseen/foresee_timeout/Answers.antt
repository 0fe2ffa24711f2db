use Rattle.kp_node.proofs.Mild.{timeout_foreseen}
use Rattle.kp_node.proofs.foreseen.foresee_timeout.Goals as goal

pub returns : goal.returns
returns c = timeout_foreseen c.args.raft.now _ _ c.may_stand-may_rise.ensures c.lead_alone.ensures.lead c.lead_alone.ensures.fits
