use Rattle.kp_world.proofs.ChangedRuns.{change_alone, logs_are_compared, votes_are_single, votes_are_recorded, terms_are_looked_at, tails_are_dropped}
use Rattle.kp_world.proofs.network.network_rules_are_needed.Goals as goal

pub returns-clause-alone : goal.returns-clause-alone
returns-clause-alone c = change_alone

pub returns-clause-compared : goal.returns-clause-compared
returns-clause-compared c = logs_are_compared

pub returns-clause-single : goal.returns-clause-single
returns-clause-single c = votes_are_single

pub returns-clause-recorded : goal.returns-clause-recorded
returns-clause-recorded c = votes_are_recorded

pub returns-clause-own_term : goal.returns-clause-own_term
returns-clause-own_term c = terms_are_looked_at

pub returns-clause-dropped : goal.returns-clause-dropped
returns-clause-dropped c = tails_are_dropped
