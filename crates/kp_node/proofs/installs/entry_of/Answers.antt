use Rattle.kp_node.proofs.Installed.{read_back}
use Rattle.kp_node.proofs.installs.entry_of.Goals as goal

pub returns-in-Ok : goal.returns-in-Ok
returns-in-Ok c = read_back _ _ _ c.in-Some.ensures.bytes c.in-Some.ensures.fits c.in-Ok.ensures.only
