-- What opening finds in a new slot.
use Rattle.std.specs.Prelude.{ℕ, List, [], Option, Some, None}
use Rattle.kp_entry.specs.declared.record.Record.{Record}
use Rattle.kp_snapshot.specs.Snapshots.{Snapshot, images}
use Rattle.kp_homes.specs.Opening.{Found, blank_start, with_records}

-- an image, and the replay of these records behind it
abbrev pub made_found : Option Snapshot → List Record → Found
made_found image rs = with_records rs (record { image = image; start = blank_start image })

-- the bytes of an image; none without one
abbrev pub image_bytes : Option Snapshot → List ℕ
image_bytes None = []
image_bytes (Some s) = images.spell s
