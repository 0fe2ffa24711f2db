use Rattle.std.proofs.Common.{take, arith, length-take}
use Rattle.kp_journal.proofs.Reading.{passed}
use Rattle.kp_journal.proofs.found.part.Goals as goal

pub returns : goal.returns
returns c = passed _ c.take-passed.result _ _ c.args.from (take c.args.until c.args.bytes.now) c.new-reader.ensures (omega (arith, c.requires.order, c.requires.inside, length-take c.args.until c.args.bytes.now)) c.take-passed.ensures.of_bytes c.take-passed.ensures.read
