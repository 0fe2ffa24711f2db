use Rattle.std.proofs.Common.{◌++◌, arith}
use Rattle.kp_told.proofs.Posted.{posted, posted_more, posted_all}
use Rattle.kp_told.proofs.letters.print_letters.Goals as goal

pub loop-letter-preserved : goal.loop-letter-preserved
loop-letter-preserved g c = (
  let at = c.loop-letter.invariant.0 in omega (arith, at),
  posted_more c.args.from c.loop-letter.out.items c.print_letter.new.out.items (c.args.out.now.items ++ posted c.args.from c.args.number c.args.letters.now) c.args.letters.now c.loop-letter.next c.loop-letter.letter-index c.letter-item.result
      c.loop-letter-test.true c.letter-item.is c.in_ok-print_letter.ensures c.loop-letter.invariant.1,
)

pub returns : goal.returns
returns g c =
    posted_all c.args.from c.loop-letter.out.items (c.args.out.now.items ++ posted c.args.from c.args.number c.args.letters.now) c.args.letters.now c.loop-letter.next c.loop-letter.letter-index c.loop-letter-test.false c.loop-letter.invariant.1
