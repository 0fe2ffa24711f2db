use Rattle.std.proofs.Common.{ap, subst, ◌∙◌}
use Rattle.kp_snapshot.specs.Snapshots.{images}
use Rattle.kp_snapshot.proofs.Spelled.{spelled_as, fits_as}
use Rattle.kp_snapshot.proofs.image.Image.as_slice.Goals as goal

pub returns-clause-spelled : goal.returns-clause-spelled
returns-clause-spelled c = c.as_slice.ensures.value ∙ spelled_as c.self.inside.bytes.items c.self.invariant.spelled ∙ ap images.spell c.self.view_is

pub returns-clause-fits : goal.returns-clause-fits
returns-clause-fits c = subst images.Fits c.self.view_is (fits_as c.self.inside.bytes.items c.self.invariant.spelled)
