-- The text of an audit (this project's own).
use Rattle.std.specs.Prelude.{ℕ, List, ◌++◌, Option, Some, None}
use Rattle.std.specs.Fmt.{decimal}
use Rattle.std.specs.FinMap as map
use Rattle.kp_model.specs.LogEntry.{LogEntry}
use Rattle.kp_model.specs.State as state
use Rattle.kp_model.specs.State.{State}
use Rattle.kp_model.specs.Store.{Store, last, latest}
use Rattle.kp_plain.specs.declared.store.Counts.{Counts}
use Rattle.kp_plain.specs.Counted.{counts_of}
use Rattle.kp_snapshot.specs.Snapshots.{Snapshot}
use Rattle.kp_homes.specs.declared.inspecting.LiveSlot.{LiveSlot}
use Rattle.kp_homes.specs.Opening.{Found, base_of}
use Rattle.kp_homes.specs.Stands.{slot_number}
use lib.Chars.{codes}

-- ---- the store of a home

-- the state of an image; without one the root alone
abbrev pub base_state : Option Snapshot → State
base_state None = state.empty
base_state (Some s) = s.state

-- the same with these entries behind it, which are not applied
abbrev pub store_of : Option Snapshot → List LogEntry → Store
store_of image es = record { state = base_state image; unapplied = es }

-- how many nodes and sessions its committed state has, and its uncommitted one
abbrev pub store_counts : Store → Counts
store_counts x = counts_of x.state (latest x)

-- the store with these entries more
abbrev pub with_all : Store → List LogEntry → Store
with_all x es = record x { unapplied = x.unapplied ++ es }

-- ---- lines

abbrev pub slot_text : ℕ → ℕ → ℕ → List ℕ
slot_text slot generation boot = codes "slot " ++ (decimal slot ++ (codes " gen " ++ (decimal generation ++ (codes " boot " ++ decimal boot))))

abbrev pub vote_text : ℕ → ℕ → List ℕ
vote_text term vote = codes " term " ++ (decimal term ++ (codes " vote " ++ decimal vote))

abbrev pub base_text : ℕ → ℕ → ℕ → List ℕ
base_text index term last = codes " base " ++ (decimal index ++ (codes "." ++ (decimal term ++ (codes " last " ++ (decimal last ++ codes "\n")))))

abbrev pub numbers_text : List ℕ → ℕ → ℕ → List ℕ
numbers_text word nodes sessions = word ++ (codes " nodes=" ++ (decimal nodes ++ (codes " sessions=" ++ (decimal sessions ++ codes "\n"))))

-- how many nodes and sessions a state has, the root among the nodes
abbrev pub counts_text : List ℕ → State → List ℕ
counts_text word s = numbers_text word (map.len s.nodes) (map.len s.sessions)

-- the line of a slot with this number and generation: the number of the last start, term, vote, the base, and the index of the last entry
abbrev pub line_text : ℕ → ℕ → ℕ → ℕ → ℕ → Option Snapshot → ℕ → List ℕ
line_text slot generation boot term vote image last = slot_text slot generation boot ++ (vote_text term vote ++ base_text (base_of image).base (base_of image).base_term last)

-- ---- the text of a home

-- a live slot: its line, the base state, and the state after all entries
unfoldable pub slot_lines : ℕ → ℕ → ℕ → ℕ → ℕ → Option Snapshot → List LogEntry → List ℕ
slot_lines slot generation boot term vote image es = line_text slot generation boot term vote image (last (store_of image es)) ++ (counts_text (codes "tree") (base_state image) ++ counts_text (codes "replay") (latest (store_of image es)))

-- what is found in a slot with this number and generation
abbrev pub found_text : ℕ → ℕ → Found → List ℕ
found_text slot generation f = slot_lines slot generation f.start.boot f.start.held.term f.start.held.vote f.image f.start.held.log.entries

abbrev pub blank_text : List ℕ
blank_text = codes "blank\n"

-- the same of what was told of a live slot
abbrev pub live_text : LiveSlot → List ℕ
live_text s = slot_lines (slot_number s.second) s.generation s.kept.boot s.kept.term s.kept.vote s.kept.image s.kept.rest.items

abbrev pub told_text : Option LiveSlot → List ℕ
told_text None = blank_text
told_text (Some s) = live_text s
