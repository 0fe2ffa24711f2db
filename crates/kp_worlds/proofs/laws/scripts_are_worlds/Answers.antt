use Rattle.kp_worlds.proofs.Plays.{lines_are_events, scripts_are_worlds}
use Rattle.kp_worlds.proofs.laws.scripts_are_worlds.Goals as goal

pub returns-clause-lines : goal.returns-clause-lines
returns-clause-lines c = lines_are_events

pub returns-clause-scripts : goal.returns-clause-scripts
returns-clause-scripts c = scripts_are_worlds
