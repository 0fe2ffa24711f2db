use Rattle.kp_world.proofs.Broken.{voters_compare_logs, voters_vote_once, followers_keep_agreement, old_entries_are_not_counted}
use Rattle.kp_world.proofs.rules_are_needed.Goals as goal

pub returns-clause-logs_compared : goal.returns-clause-logs_compared
returns-clause-logs_compared c = voters_compare_logs

pub returns-clause-one_vote : goal.returns-clause-one_vote
returns-clause-one_vote c = voters_vote_once

pub returns-clause-agreement_kept : goal.returns-clause-agreement_kept
returns-clause-agreement_kept c = followers_keep_agreement

pub returns-clause-own_term : goal.returns-clause-own_term
returns-clause-own_term c = old_entries_are_not_counted
