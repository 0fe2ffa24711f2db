use Rattle.kp_world.proofs.Runs.{election_happens, write_is_committed, member_catches_up, write_is_dropped}
use Rattle.kp_world.proofs.histories_of_three.Goals as goal

pub returns-clause-elected : goal.returns-clause-elected
returns-clause-elected c = election_happens

pub returns-clause-committed : goal.returns-clause-committed
returns-clause-committed c = write_is_committed

pub returns-clause-late : goal.returns-clause-late
returns-clause-late c = member_catches_up

pub returns-clause-dropped : goal.returns-clause-dropped
returns-clause-dropped c = write_is_dropped
