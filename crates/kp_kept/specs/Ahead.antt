-- A node ahead of its home: what waits to be kept, and how it leads from what the home would open with to what the node is.
use Rattle.std.specs.Prelude.{◌≡◌, Bool, true, false, ◌&&◌, List, [], ◌∷◌, ◌++◌, Option, Some, None}
use Rattle.kp_entry.specs.declared.record.Record.{Record}
use Rattle.kp_snapshot.specs.Snapshots.{Snapshot}
use Rattle.kp_step.specs.Node.{Node}
use Rattle.kp_homes.specs.Opening.{Start, Found, are_fit, started}

-- the records of several steps, one behind the other
abbrev pub all_records : List (List Record) → List Record
all_records [] = []
all_records (rs ∷ rss) = rs ++ all_records rss

-- whether there is a record
abbrev pub has_some : List Record → Bool
has_some [] = false
has_some (r ∷ rs) = true

-- whether each of these steps has a record
abbrev pub all_want : List (List Record) → Bool
all_want [] = true
all_want (rs ∷ rss) = has_some rs && all_want rss

-- what steps want kept: their records, or the image that stands for all that is wanted up to the last of them
pub record Waiting : Type 0 where
  pub image : Option Snapshot
  pub records : List Record

abbrev pub nothing_waits : Waiting
nothing_waits = record { image = None; records = [] }

-- the records of a step behind those that wait. Where an image waits they aren't wanted: the node's own log stands behind it then
abbrev pub records_behind : Option Snapshot → List Record → List Record → List Record
records_behind None old rs = old ++ rs
records_behind (Some i) old rs = old

-- what waits behind one step more, whose last record is a base where it gives an image
abbrev pub waits_behind : Waiting → List Record → Option Snapshot → Waiting
waits_behind w rs None = record { image = w.image; records = records_behind w.image w.records rs }
waits_behind w rs (Some i) = record { image = Some i; records = [] }

-- ---- what the node keeps over a stop

-- how often it was started, its term, its vote and its log
abbrev pub start_of : Node → Start
start_of x = record { boot = x.boot; held = x.held }

-- what opening finds where the home has all of it, behind this image
abbrev pub own : Option Snapshot → Node → Found
own image x = record { image = image; start = start_of x }

-- the base of the node's log is this image's
pub record IsBase (i : Snapshot) (x : Node) : Type 0 where
  pub index : i.state.applied ≡ x.held.log.base
  pub term : i.term ≡ x.held.log.base_term

-- the records may stand behind what opening finds, and lead from it to what the node keeps; an image stands for its base
abbrev pub leads_to : Option Snapshot → List Record → Found → Node → Type 0
leads_to None rs f x = (are_fit f.start.held rs ≡ true) × (started f.start rs ≡ start_of x)
leads_to (Some i) rs f x = IsBase i x

abbrev pub IsAhead : Waiting → Found → Node → Type 0
IsAhead w f x = leads_to w.image w.records f x

-- the image that stands behind what waits
abbrev pub image_then : Option Snapshot → Option Snapshot → Option Snapshot
image_then old None = old
image_then old (Some i) = Some i

-- what opening finds once all that waits is kept: the node's own
abbrev pub found_then : Waiting → Found → Node → Found
found_then w f x = own (image_then f.image w.image) x
