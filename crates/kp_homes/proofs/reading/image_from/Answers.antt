use Rattle.std.proofs.Common.{◌∙◌, ap, subst, Result, Err}
use Rattle.kp_jute.specs.declared.fault.JuteFail.{JuteFail}
use Rattle.kp_jute.specs.Form.{whole}
use Rattle.kp_snapshot.specs.declared.fail.ImageFail.{ImageFail}
use Rattle.kp_snapshot.specs.Snapshots.{Snapshot, images, Reads}
use Rattle.kp_homes.specs.Opening.{image_read}
use Rattle.kp_homes.proofs.Looking.{some_image, refused_image}
use Rattle.kp_homes.proofs.reading.image_from.Goals as goal

pub returns-in-Ok-clause-says : goal.returns-in-Ok-clause-says
returns-in-Ok-clause-says c some = some_image c.args.slot c.args.bytes.items some ∙ ap (λ (r : Result Snapshot JuteFail). image_read c.args.slot r) c.in-Ok.ensures.exact

pub returns-in-Err-Damaged-clause-says : goal.returns-in-Err-Damaged-clause-says
returns-in-Err-Damaged-clause-says c some =
    some_image c.args.slot c.args.bytes.items some
    ∙ refused_image c.args.slot c.in-Err-Damaged.at (whole images c.args.bytes.items) (subst (λ (f : ImageFail). Reads (Err f) (whole images c.args.bytes.items)) c.in-Err-Damaged.field-0-is c.in-Err-Damaged.ensures.exact)
