use Rattle.kp_text.proofs.LineTexts.{read_as_spelled}
use Rattle.kp_text.proofs.line.read_store_line.Goals as goal

pub returns-in-Ok-Some-clause-spelled : goal.returns-in-Ok-Some-clause-spelled
returns-in-Ok-Some-clause-spelled c = read_as_spelled c.args.line.now

pub returns-in-Ok-None-clause-spelled : goal.returns-in-Ok-None-clause-spelled
returns-in-Ok-None-clause-spelled c = read_as_spelled c.args.line.now

pub returns-in-Err-clause-spelled : goal.returns-in-Err-clause-spelled
returns-in-Err-clause-spelled c = read_as_spelled c.args.line.now
