use Rattle.kp_cluster.proofs.EpochWorlds.{answers_keep_earlier, answers_keep_later}
use Rattle.kp_cluster.proofs.Longest.{longest_holds}
use Rattle.kp_cluster.proofs.Runs.{one_list_holds, states_fold, writes_count}
use Rattle.kp_cluster.proofs.laws.one_tree.Goals as goal

pub returns-clause-one_list : goal.returns-clause-one_list
returns-clause-one_list g c = one_list_holds g.row.I.Denot

pub returns-clause-folds : goal.returns-clause-folds
returns-clause-folds g c = states_fold g.row.I.Denot

pub returns-clause-counted : goal.returns-clause-counted
returns-clause-counted g c = writes_count g.row.I.Denot c.writes_act_once.ensures.counted

pub returns-clause-later : goal.returns-clause-later
returns-clause-later g c = answers_keep_later g.row.I.Denot (one_list_holds g.row.I.Denot) (states_fold g.row.I.Denot)

pub returns-clause-earlier : goal.returns-clause-earlier
returns-clause-earlier g c = answers_keep_earlier g.row.I.Denot (one_list_holds g.row.I.Denot) (states_fold g.row.I.Denot)

pub returns-clause-longest : goal.returns-clause-longest
returns-clause-longest g c = longest_holds g.row.I.Denot (one_list_holds g.row.I.Denot)
