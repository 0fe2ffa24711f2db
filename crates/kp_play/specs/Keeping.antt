-- What steps want kept is put into a home.
use Rattle.std.specs.Prelude.{ℕ, ◌+◌, ◌^◌, nat_lt, nat_le, not, cond, if◌then◌else◌, List, [], ◌∷◌, ◌++◌, length, take, Option, None, Some, Result, Ok, Err}
use Rattle.kp_entry.specs.declared.record.Record.{Record}
use Rattle.kp_entry.specs.declared.record.Record.TheVariants as record_
use Rattle.kp_entry.specs.Heads.{appended}
use Rattle.kp_entry.specs.Held.{replay}
use Rattle.kp_entry.specs.Records.{spelled}
use Rattle.kp_snapshot.specs.Snapshots.{Snapshot, images}
use Rattle.kp_homes.specs.Opening.{Found}
use Rattle.kp_homes.specs.Stands.{slot_number}
use Rattle.kp_step.specs.Node.{Node}
use Rattle.kp_play.specs.Stage.{Home, Thought, gate_behind}

-- a journal (slots 0 and 1) or an image (2 and 3) that would have this length, which is too much
pub record Full : Type 0 where
  pub slot : ℕ
  pub len : ℕ

-- the most bytes of a journal and of an image
abbrev pub most : ℕ
most = 2 ^ 40

-- ---- what opening finds behind a step

-- the image that stands behind a step which made or took this one, if any
abbrev pub newer : Option Snapshot → Option Snapshot → Option Snapshot
newer old None = old
newer old (Some i) = Some i

-- the image of the last base among these records, or what it was
abbrev pub image_with : Option Snapshot → Option Snapshot → List Record → Option Snapshot
image_with new old [] = old
image_with new old (record_.Vote term vote ∷ rs) = image_with new old rs
image_with new old (record_.Boot boot ∷ rs) = image_with new old rs
image_with new old (record_.Append e ∷ rs) = image_with new old rs
image_with new old (record_.Truncate end ∷ rs) = image_with new old rs
image_with new old (record_.Base index term ∷ rs) = image_with new new rs

-- the records of a step are replayed, whose base has this image
unfoldable pub replayed : Found → Option Snapshot → List Record → Found
replayed f image rs = record { image = image_with (newer f.image image) f.image rs; start = record { boot = f.start.boot; held = replay f.start.held rs } }

-- step by step
abbrev pub found_behind : Found → List Thought → Found
found_behind f [] = f
found_behind f (t ∷ ts) = found_behind (replayed f t.image t.records) ts

-- ---- how it is kept, and how long a journal or an image gets

-- one batch of records more, where there are any: behind a gate and a length, with the next gate behind it. This is found then
unfoldable pub put : Home → List Record → Found → Result Home Full
put h [] f = Ok (record h { found = f })
put h (r ∷ rs) f = let len : ℕ = length (spelled (r ∷ rs)) in
    if nat_lt most (h.gate + 6 + len)
    then Err (record { slot = slot_number h.second; len = h.gate + 6 + len })
    else Ok (record h { found = f; gate = h.gate + 5 + len })

-- what a node keeps over a stop, behind its image, as records
abbrev pub own_records : Node → List Record
own_records x = record_.Vote x.held.term x.held.vote ∷ record_.Boot x.boot ∷ appended x.held.log.entries

-- a new slot for the image of a node's base, with all that the node keeps behind it
unfoldable pub put_image : Home → Snapshot → Node → Found → Result Home Full
put_image h i x f = let len : ℕ = length (images.spell i) in
    if nat_lt most len
    then Err (record { slot = cond h.second 2 3; len = len })
    else Ok (record { found = f; second = not h.second; gate = gate_behind (own_records x) })

-- what waits: the records behind the last image, or that image, behind which the node's own log stands
pub record Waits : Type 0 where
  pub image : Option Snapshot
  pub records : List Record

abbrev pub records_with : Option Snapshot → List Record → List Record → List Record
records_with None old rs = old ++ rs
records_with (Some i) old rs = old

abbrev pub waits_with : Waits → Thought → Option Snapshot → Waits
waits_with w t (Some i) = record { image = Some i; records = [] }
waits_with w t None = record w { records = records_with w.image w.records t.records }

abbrev pub waits_from : Waits → List Thought → Waits
waits_from w [] = w
waits_from w (t ∷ ts) = waits_from (waits_with w t t.image) ts

-- what waits behind these steps
abbrev pub waits_of : List Thought → Waits
waits_of ts = waits_from (record { image = None; records = [] }) ts

abbrev pub put_waits : Home → Waits → Option Snapshot → Node → Found → Result Home Full
put_waits h w None x f = put h w.records f
put_waits h w (Some i) x f = put_image h i x f

-- all that these steps want is kept, which lead to the node: in one batch, or in one new slot
unfoldable pub kept : Home → List Thought → Node → Result Home Full
kept h ts x = put_waits h (waits_of ts) (waits_of ts).image x (found_behind h.found ts)

-- these first records of a step are kept, which leads to the node; an image where they are all
abbrev pub put_some : Home → List Record → List Record → Option Snapshot → Node → Found → Result Home Full
put_some h some all None x f = put h some f
put_some h some all (Some i) x f = if nat_le (length all) (length some) then put_image h i x f else put h some f

-- of a step, which leads to the node, the first k records alone are kept
unfoldable pub torn : Home → ℕ → Thought → Node → Result Home Full
torn h k t x = put_some h (take k t.records) t.records t.image x (replayed h.found t.image (take k t.records))
