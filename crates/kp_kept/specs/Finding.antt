-- What opening finds behind a call on a home, also where a crash left it.
use Rattle.std.specs.Prelude.{◌≡◌, ℕ, ◌<◌, ◌^◌, true, List, Option}
use Rattle.kp_io.specs.Crash.{Past, HasRoom}
use Rattle.kp_entry.specs.declared.record.Record.{Record}
use Rattle.kp_snapshot.specs.Snapshots.{Snapshot}
use Rattle.kp_step.specs.Node.{Node}
use Rattle.kp_homes.specs.declared.home.Home.{Home}
use Rattle.kp_homes.specs.Opening.{Found, are_fit, with_records}
use Rattle.kp_homes.specs.Homes.{Keeps, FindsEither}
use Rattle.kp_kept.specs.Ahead.{leads_to, own, image_then}

module _ {H : Type 0} (held : H → Option (List ℕ)) (past : H → Option Past) (home : Home H) where
  -- opening finds this on the home, which is at rest
  abbrev pub Has : Found → Type 0
  Has f = Keeps held past home.disks home.second home.journal f

-- a call on a home: from what the old one had to what the new one has
module _ {H : Type 0} (held : H → Option (List ℕ)) (past : H → Option Past) (old new : Home H) where
  -- each crash since the call began leaves the one or the other
  abbrev pub LeavesEither : Found → Found → Type 0
  LeavesEither f g = FindsEither old.journal.head.node past old.disks.moments new.disks f g

  -- each crash leaves what was found, or that with these records, which may stand behind it
  abbrev pub LeavesBatch : List Record → Type 0
  LeavesBatch rs = (f : Found) → Has held past old f → HasRoom new.disks.moments → are_fit f.start.held rs ≡ true → LeavesEither f (with_records rs f)

  -- what was found is found with these records
  abbrev pub HasBatch : List Record → Type 0
  HasBatch rs = (f : Found) → Has held past old f → HasRoom new.disks.moments → are_fit f.start.held rs ≡ true → Has held past new (with_records rs f)

  -- each crash leaves what was found, or what the node is to which this image and these records lead
  abbrev pub LeavesNode : Option Snapshot → List Record → Node → Type 0
  LeavesNode image rs x = (f : Found) → Has held past old f → HasRoom new.disks.moments → old.journal.head.generation < 2 ^ 62 → leads_to image rs f x → LeavesEither f (own (image_then f.image image) x)

  -- what the node is is found
  abbrev pub HasNode : Option Snapshot → List Record → Node → Type 0
  HasNode image rs x = (f : Found) → Has held past old f → HasRoom new.disks.moments → old.journal.head.generation < 2 ^ 62 → leads_to image rs f x → Has held past new (own (image_then f.image image) x)
