use Rattle.kp_snapshot.proofs.ImageLaws.{images_lawful}
use Rattle.kp_snapshot.proofs.HasImages.{has_image, is_sound}
use Rattle.kp_snapshot.proofs.promises.laws.Goals as goal

pub returns : goal.returns
returns c = record { image = images_lawful; has = has_image; sound = is_sound }
