-- What opening finds on what the disks hold, without a crash.
use Rattle.std.proofs.Common.{ℕ, ◌+◌, ◌≤◌, ◌<◌, List, Option, arith}
use Rattle.kp_io.specs.Crash.{Past}
use Rattle.kp_io.specs.declared.home.Four.{Four}
use Rattle.kp_homes.specs.Stands.{Bytes4, HomeLeft}
use Rattle.kp_homes.specs.Opening.{AreSound, AreTold, Found, Holds, LeftNow}
use Rattle.kp_homes.specs.Homes.{FindsEither, HoldsEither}
use Rattle.kp_homes.proofs.Sound.{now_told, now_left, next_left}

pub either_held : {H : Type 0} (held : H → Option (List ℕ)) (past : H → Option Past) (node m : ℕ) (home : Four H) (f g : Found) → m ≤ home.moments → FindsEither node past m home f g → AreSound held past home → HoldsEither node held past home f g
either_held held past node m home f g le finds s c holds = (
  now_told held past home c s holds,
  now_left held past home c s holds,
  finds (home.moments + 1) c (omega (arith, le)) (next_left held past home c s holds),
)

-- the same of a claim on what each crash leaves
pub opening_held : {H : Type 0} (held : H → Option (List ℕ)) (past : H → Option Past) (m : ℕ) (home : Four H) (c : Bytes4) (W : Type 0) → m ≤ home.moments → AreSound held past home → Holds held home c
    → ((n : ℕ) → m < n → HomeLeft past home n c → W) → AreTold held past home c × LeftNow past home c × W
opening_held held past m home c W le s holds leaves =
    (now_told held past home c s holds, now_left held past home c s holds, leaves (home.moments + 1) (omega (arith, le)) (next_left held past home c s holds))
