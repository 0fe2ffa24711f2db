use Rattle.kp_snapshot.proofs.Refilled.{poured_all}
use Rattle.kp_snapshot.proofs.pouring.pour.Goals as goal

pub returns-in-Ok-clause-set : goal.returns-in-Ok-clause-set
returns-in-Ok-clause-set g c =
    let s = c.in-Ok.ensures.set in
    poured_all c.args.image.now c.as_slice.result.now c.new-reader.result c.pour_parts.new.reader s.0 (g.F.Fill.state c.args.into.now) (g.F.Fill.state c.pour_parts.new.into) c.as_slice.ensures.fits c.as_slice.ensures.spelled c.new-reader.ensures s.1 c.requires.empty s.2
