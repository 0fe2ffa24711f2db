use Rattle.std.proofs.Common.{Ok, sym, ◌∙◌, ap}
use Rattle.kp_homes.specs.Opening.{image_in}
use Rattle.kp_homes.proofs.Finding.{spelled_image, no_bytes}
use Rattle.kp_homes.proofs.whole.image_bytes.Goals as goal

pub returns-in-None-clause-read : goal.returns-in-None-clause-read
returns-in-None-clause-read c = no_bytes ∙ ap Ok (sym c.in-None.is)

pub returns-in-Some-clause-read : goal.returns-in-Some-clause-read
returns-in-Some-clause-read c = ap (image_in 0) c.as_slice.ensures.spelled ∙ spelled_image _ c.as_slice.ensures.fits ∙ ap Ok (sym c.in-Some.is)
