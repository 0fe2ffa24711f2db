use Rattle.std.proofs.Common.{arith}
use Rattle.kp_script.proofs.LineTexts.{read_as_spelled}
use Rattle.kp_script.proofs.line.read_script_line.Goals as goal

pub returns-in-Ok-Some-clause-spelled : goal.returns-in-Ok-Some-clause-spelled
returns-in-Ok-Some-clause-spelled c l = read_as_spelled c.args.nodes c.args.line.now l (omega (arith, c.ranges.nodes.fits))

pub returns-in-Ok-None-clause-spelled : goal.returns-in-Ok-None-clause-spelled
returns-in-Ok-None-clause-spelled c l = read_as_spelled c.args.nodes c.args.line.now l (omega (arith, c.ranges.nodes.fits))

pub returns-in-Err-clause-spelled : goal.returns-in-Err-clause-spelled
returns-in-Err-clause-spelled c l = read_as_spelled c.args.nodes c.args.line.now l (omega (arith, c.ranges.nodes.fits))
