-- What a home that is open keeps.
use Rattle.std.specs.Prelude.{◌≡◌, ◌⊎◌, ℕ, ◌≤◌, ◌<◌, ◌^◌, Bool, List, Option, Some, None, Result, Ok, Err}
use Rattle.kp_io.specs.Crash.{Past}
use Rattle.kp_io.specs.declared.home.Four.{Four}
use Rattle.kp_journal.specs.Journals.{Journaled}
use Rattle.kp_homes.specs.declared.fail.HomeFail.{HomeFail}
use Rattle.kp_homes.specs.declared.fail.HomeFail.TheVariants as home_fail
use Rattle.kp_homes.specs.declared.kept.Kept0.{Kept0}
use Rattle.kp_homes.specs.declared.home.Home.{Home}
use Rattle.kp_homes.specs.Stands.{Bytes4, Stand, Stands, HomeLeft, slot_number}
use Rattle.kp_homes.specs.Opening.{Found, Holds, AreTold, LeftNow, found, found_in, booted}

-- a server starts with what was found
pub record IsKept (k : Kept0) (f : Found) : Type 0 where
  pub term : k.term ≡ f.start.held.term
  pub vote : k.vote ≡ f.start.held.vote
  pub boot : k.boot ≡ f.start.boot
  pub image : k.image ≡ f.image
  pub rest : k.rest.items ≡ f.start.held.log.entries

-- the numbers with which a server starts are in their ranges
abbrev pub IsInRange : Kept0 → Type 0
IsInRange k = (k.vote ≤ 7) × (k.term ≤ 2 ^ 62) × (k.boot ≤ 2 ^ 62)

-- opening finds this on a home at rest with this live slot and journal
pub record Keeps {H : Type 0} (held : H → Option (List ℕ)) (past : H → Option Past) (home : Four H) (second : Bool) (j : Journaled) (f : Found) : Type 0 where
  pub bytes : Bytes4
  pub value : Stand
  pub stands : Stands held past home second j bytes value
  pub finds : found_in (slot_number second) (Ok value) ≡ Ok f

-- after each crash since the count was m opening finds the one or the other
abbrev pub FindsEither : {H : Type 0} → ℕ → (H → Option Past) → ℕ → Four H → Found → Found → Type 0
FindsEither node past m home f g = (n : ℕ) (c : Bytes4) → m < n → HomeLeft past home n c → (found node c ≡ Ok f) ⊎ (found node c ≡ Ok g)

-- after each crash since the count was m opening finds this
abbrev pub FindsOnly : {H : Type 0} → ℕ → (H → Option Past) → ℕ → Four H → Found → Type 0
FindsOnly node past m home f = (n : ℕ) (c : Bytes4) → m < n → HomeLeft past home n c → found node c ≡ Ok f

-- without a crash: what the disks hold now they tell, it is something that a crash now may leave, and opening finds the one
-- or the other on it
abbrev pub HoldsEither : {H : Type 0} → ℕ → (H → Option (List ℕ)) → (H → Option Past) → Four H → Found → Found → Type 0
HoldsEither node held past home f g = (c : Bytes4) → Holds held home c → AreTold held past home c × LeftNow past home c × ((found node c ≡ Ok f) ⊎ (found node c ≡ Ok g))

-- the refusal of what was found is this one, where it is a damage
abbrev pub IsRefused : HomeFail → Result Found HomeFail → Type 0
IsRefused home_fail.DiskFault is = Unit {0}
IsRefused (home_fail.Damaged slot at) is = is ≡ Err (home_fail.Damaged slot at)
IsRefused (home_fail.Full slot len) is = Unit {0}
IsRefused home_fail.NoMemory is = Unit {0}

-- a refusal of a start of a home that was read
abbrev pub IsOfStart : HomeFail → Type 0
IsOfStart home_fail.DiskFault = Unit {0}
IsOfStart (home_fail.Damaged slot at) = ⊥
IsOfStart (home_fail.Full slot len) = Unit {0}
IsOfStart home_fail.NoMemory = Unit {0}

-- a refusal of the first slot of a blank home
abbrev pub IsOfFirst : HomeFail → Type 0
IsOfFirst home_fail.DiskFault = Unit {0}
IsOfFirst (home_fail.Damaged slot at) = ⊥
IsOfFirst (home_fail.Full slot len) = ⊥
IsOfFirst home_fail.NoMemory = Unit {0}

-- what an opening of a home of such disks answers
abbrev pub Opening : Type 0 → Type 0
Opening H = Result (Home H × Kept0) (HomeFail × Four H)

-- the disks behind an opening
abbrev pub disks_of : {H : Type 0} → Opening H → Four H
disks_of (Ok x) = x.0.disks
disks_of (Err x) = x.1

-- why nothing was opened
abbrev pub fail_of : {H : Type 0} → Opening H → Option HomeFail
fail_of (Ok x) = None
fail_of (Err x) = Some x.0

-- the answer is what was found, with one start more, or the refusal of what was found
abbrev pub Opens : {H : Type 0} → Opening H → Result Found HomeFail → Type 0
Opens (Ok x) is = (f : Found) × (is ≡ Ok f) × IsKept x.1 (booted f)
Opens (Err x) is = IsRefused x.0 is

-- what is found is what was found, or that with one start more
abbrev pub IsBootedOrNot : Result Found HomeFail → Result Found HomeFail → Type 0
IsBootedOrNot was is = (is ≡ was) ⊎ ((f : Found) × (was ≡ Ok f) × (is ≡ Ok (booted f)))
