use Rattle.kp_cluster.proofs.EpochLists.{epochs_go_on, epochs_never_fall, gone_for_good, states_are_numbered}
use Rattle.kp_cluster.proofs.epochs.epochs_rise_by_attaching.Goals as goal

pub returns-clause-one : goal.returns-clause-one
returns-clause-one c = epochs_go_on

pub returns-clause-all : goal.returns-clause-all
returns-clause-all c = epochs_never_fall

pub returns-clause-gone : goal.returns-clause-gone
returns-clause-gone c = gone_for_good

pub returns-clause-numbered : goal.returns-clause-numbered
returns-clause-numbered c = states_are_numbered
