use Rattle.kp_world.proofs.Laws.{one_winner, one_leader}
use Rattle.kp_world.proofs.election_safety.Goals as goal

pub returns-clause-winner : goal.returns-clause-winner
returns-clause-winner c = one_winner

pub returns-clause-leader : goal.returns-clause-leader
returns-clause-leader c = one_leader
