use Rattle.kp_snapshot.proofs.Whole.{found_in, only_that}
use Rattle.kp_snapshot.proofs.image.Image.from_vec.Goals as goal

pub returns-clause-found : goal.returns-clause-found
returns-clause-found c = found_in c.args.bytes.items c.checked.result c.checked.ensures.bytes c.checked.ensures.read

pub returns-clause-only : goal.returns-clause-only
returns-clause-only c = λ s fits e. only_that c.args.bytes.items c.checked.result s c.checked.ensures.read fits e
