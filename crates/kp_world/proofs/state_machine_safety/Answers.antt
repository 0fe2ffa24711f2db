use Rattle.kp_world.proofs.Laws.{committed_begin_alike, one_entry_a_place, committed_for_good}
use Rattle.kp_world.proofs.state_machine_safety.Goals as goal

pub returns-clause-lists : goal.returns-clause-lists
returns-clause-lists c = committed_begin_alike

pub returns-clause-entries : goal.returns-clause-entries
returns-clause-entries c = one_entry_a_place

pub returns-clause-kept : goal.returns-clause-kept
returns-clause-kept c = committed_for_good
