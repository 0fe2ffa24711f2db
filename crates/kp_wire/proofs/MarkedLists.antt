-- Lists up to an end mark, behind values that were read before.
use Rattle.std.proofs.Common.{◌≡◌, List, [], Result, Ok, Err, refl}
use Rattle.kp_jute.specs.declared.fault.JuteFail.{JuteFail}
use Rattle.kp_jute.specs.Form.{Place}
use Rattle.kp_wire.specs.Common.{behind_all}

pub behind_none : {A : Type 0} (read : Result (List A × Place) JuteFail) → behind_all [] read ≡ read
behind_none (Ok x) = refl
behind_none (Err e) = refl
