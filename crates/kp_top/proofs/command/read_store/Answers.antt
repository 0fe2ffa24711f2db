use Rattle.kp_top.proofs.Runs.{part_of_nothing}
use Rattle.kp_top.proofs.command.read_store.Goals as goal

pub returns-in-Err-Fault-clause-part : goal.returns-in-Err-Fault-clause-part
returns-in-Err-Fault-clause-part g c = part_of_nothing (g.S.Source.left c.args.input.now) (g.W.Sink.held c.args.output.now)

pub returns-in-Err-TooLong-clause-part : goal.returns-in-Err-TooLong-clause-part
returns-in-Err-TooLong-clause-part g c = part_of_nothing (g.S.Source.left c.args.input.now) (g.W.Sink.held c.args.output.now)

pub returns-in-Err-NoMemory-clause-part : goal.returns-in-Err-NoMemory-clause-part
returns-in-Err-NoMemory-clause-part g c = part_of_nothing (g.S.Source.left c.args.input.now) (g.W.Sink.held c.args.output.now)
