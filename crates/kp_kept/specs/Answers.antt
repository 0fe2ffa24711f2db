-- What the calls of a node with its home answer.
use Rattle.std.specs.Prelude.{◌≡◌, ℕ, ◌<◌, ◌≤◌, ◌^◌, Option, Some, None, Result, Ok, Err}
use Rattle.kp_io.specs.Faults.{Rose}
use Rattle.kp_event.specs.declared.fail.KeptFail.{KeptFail}
use Rattle.kp_event.specs.declared.fail.KeptFail.TheVariants as fail
use Rattle.kp_event.specs.declared.fail.Why.{Why}
use Rattle.kp_event.specs.declared.fail.Why.TheVariants as why
use Rattle.kp_homes.specs.declared.fail.HomeFail.{HomeFail}
use Rattle.kp_homes.specs.declared.fail.HomeFail.TheVariants as home_fail

-- what a home answers that keeps what waits
abbrev pub IsOfKeeping : HomeFail → Type 0
IsOfKeeping home_fail.DiskFault = Unit {0}
IsOfKeeping (home_fail.Damaged slot at) = ⊥
IsOfKeeping (home_fail.Full slot len) = slot ≤ 3
IsOfKeeping home_fail.NoMemory = Unit {0}

-- what the node answers then
abbrev pub fail_by : HomeFail → KeptFail
fail_by home_fail.DiskFault = fail.DiskFault
fail_by (home_fail.Damaged slot at) = fail.NoMemory
fail_by (home_fail.Full slot len) = fail.Full slot len
fail_by home_fail.NoMemory = fail.NoMemory

-- and why it takes nothing any more, where the count of its home's faults is this now
abbrev pub death_by : HomeFail → ℕ → Option Why
death_by home_fail.DiskFault faults = Some (why.Disk faults)
death_by (home_fail.Damaged slot at) faults = None
death_by (home_fail.Full slot len) faults = Some (why.Full slot len)
death_by home_fail.NoMemory faults = None

-- what a think answers but Ok
abbrev pub IsOfThink : KeptFail → Type 0
IsOfThink fail.NoMemory = Unit {0}
IsOfThink fail.DiskFault = ⊥
IsOfThink (fail.Full slot len) = ⊥
IsOfThink (fail.Dead why) = Unit {0}

-- the count of faults stays where the call is Ok, rises where a disk failed, and nothing of the home changes else
abbrev pub Costs : {A H : Type 0} → (H → ℕ) → H → H → Result A HomeFail → Type 0
Costs faults old new (Ok x) = faults new ≡ faults old
Costs faults old new (Err home_fail.DiskFault) = Rose (faults old) (faults new)
Costs faults old new (Err (home_fail.Damaged slot at)) = ⊥
Costs faults old new (Err (home_fail.Full slot len)) = (new ≡ old) × (slot ≤ 3) × (2 ^ 40 < len)
Costs faults old new (Err home_fail.NoMemory) = new ≡ old
