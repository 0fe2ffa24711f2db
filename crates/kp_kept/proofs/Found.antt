-- What is found on a home, and what a call on it costs.
use Rattle.std.proofs.Common.{◌≡◌, inl, ℕ, ◌≤◌, ◌<◌, ◌^◌, Bool, true, false, cond, List, Option, Result, Ok, Err, refl, arith}
use Rattle.std.specs.Prelude.{OnOk, IsErrOf}
use Rattle.kp_io.specs.Crash.{Past, HasRoom}
use Rattle.kp_io.specs.Faults.{Rose}
use Rattle.kp_io.specs.declared.home.Four.{Four}
use Rattle.kp_entry.specs.declared.record.Record.{Record}
use Rattle.kp_journal.specs.Journals.{Journaled}
use Rattle.kp_homes.specs.declared.fail.HomeFail.{HomeFail}
use Rattle.kp_homes.specs.declared.fail.HomeFail.TheVariants as home_fail
use Rattle.kp_homes.specs.declared.home.Home.{Home}
use Rattle.kp_homes.specs.Stands.{slot_number, IsOfWriting}
use Rattle.kp_homes.specs.Opening.{Found, are_fit, with_records}
use Rattle.kp_homes.specs.Homes.{Keeps, FindsEither, FindsOnly}
use Rattle.kp_homes.proofs.Finding.{stands_found}
use Rattle.kp_homes.proofs.Standing.{rest_only}
use Rattle.kp_kept.specs.Answers.{Costs}
use Rattle.kp_kept.specs.Finding.{Has, HasBatch}

module _ {H : Type 0} (held : H → Option (List ℕ)) (past : H → Option Past) (home : Four H) (second : Bool) (j : Journaled) (f : Found) (k : Keeps held past home second j f) where
  -- a home at rest is found as it is
  pub finds_only : FindsOnly j.head.node past home.moments home f
  finds_only n c lt left = stands_found j.head.node (slot_number second) c k.value f (rest_only held past j.head.node home k.bytes k.value k.stands.rest k.stands.value n c lt left) k.finds

  pub finds_it : (g : Found) → FindsEither j.head.node past home.moments home f g
  finds_it g n c lt left = inl (finds_only n c lt left)

-- ---- what the calls leave to be found

pub batch_had : {A H : Type 0} (held : H → Option (List ℕ)) (past : H → Option Past) (old new : Home H) (rs : List Record) (r : Result A HomeFail)
    → ((f : Found) → Has held past old f → HasRoom new.disks.moments → are_fit f.start.held rs ≡ true → OnOk r (Has held past new (with_records rs f))) → OnOk r (HasBatch held past old new rs)
batch_had held past old new rs (Ok x) h = h
batch_had held past old new rs (Err e) h = tt

-- ---- what a call costs

pub costs_so : {A H : Type 0} (faults : H → ℕ) (old new : H) (r : Result A HomeFail) → OnOk r (faults new ≡ faults old) → (IsErrOf r home_fail.DiskFault → Rose (faults old) (faults new))
    → ((slot len : ℕ) → IsErrOf r (home_fail.Full slot len) → new ≡ old) → ((slot len : ℕ) → IsErrOf r (home_fail.Full slot len) → (slot ≤ 3) × (2 ^ 40 < len))
    → ((e : HomeFail) → IsErrOf r e → IsOfWriting e) → Costs faults old new r
costs_so faults old new (Ok x) quiet fault same bound only = quiet
costs_so faults old new (Err home_fail.DiskFault) quiet fault same bound only = fault refl
costs_so faults old new (Err (home_fail.Damaged slot at)) quiet fault same bound only = only (home_fail.Damaged slot at) refl
costs_so faults old new (Err (home_fail.Full slot len)) quiet fault same bound only = (same slot len refl, (bound slot len refl).0, (bound slot len refl).1)
costs_so faults old new (Err home_fail.NoMemory) quiet fault same bound only = absurd (only home_fail.NoMemory refl)

pub slot_small : (second : Bool) (slot : ℕ) → slot ≡ slot_number second → slot ≤ 3
slot_small false slot e = omega (arith, e)
slot_small true slot e = omega (arith, e)

pub image_small : (second : Bool) (slot : ℕ) → slot ≡ cond second 2 3 → slot ≤ 3
image_small false slot e = omega (arith, e)
image_small true slot e = omega (arith, e)
