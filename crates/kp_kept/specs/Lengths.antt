-- Where what waits would be written, and up to which length.
use Rattle.std.specs.Prelude.{◌≡◌, ℕ, ◌+◌, ◌<◌, ◌^◌, Bool, cond, List, [], ◌∷◌, length, Option, Some, None}
use Rattle.kp_entry.specs.declared.record.Record.{Record}
use Rattle.kp_entry.specs.Records.{spelled}
use Rattle.kp_snapshot.specs.Snapshots.{Snapshot, images}
use Rattle.kp_homes.specs.declared.home.Home.{Home}
use Rattle.kp_homes.specs.Stands.{slot_number}
use Rattle.kp_kept.specs.Ahead.{Waiting}

-- the slot of the live journal (0 or 1), and its length behind one batch of these records more; None where there are none
abbrev pub batch_place : Bool → ℕ → List Record → Option (ℕ × ℕ)
batch_place second gate [] = None
batch_place second gate (r ∷ rs) = Some (slot_number second, gate + 6 + length (spelled (r ∷ rs)))

-- where an image waits, the slot of the image that isn't live (2 or 3), and the length of that one
abbrev pub place_of : Bool → ℕ → Option Snapshot → List Record → Option (ℕ × ℕ)
place_of second gate None rs = batch_place second gate rs
place_of second gate (Some i) rs = Some (cond second 2 3, length (images.spell i))

-- where this home would write what waits, and up to which length; None where nothing waits
abbrev pub place_in : {H : Type 0} → Home H → Waiting → Option (ℕ × ℕ)
place_in home w = place_of home.second home.journal.gate w.image w.records

-- something is to be written in this slot, and up to this length, which passes 2^40
pub record IsOver (place : Option (ℕ × ℕ)) (slot len : ℕ) : Type 0 where
  pub is : place ≡ Some (slot, len)
  pub long : 2 ^ 40 < len
