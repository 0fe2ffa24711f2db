-- A word that is 0 until some seat sets it, and 1 from then on.
use Rattle.std.specs.Prelude.{◌≡◌, ℕ, ◌+◌, ◌<◌, ◌≤◌, Bool, true, false, length, slice_index}
use mathlib.Core.Option.{some}
use lib.ListN.{get_elem?}
use Rattle.atomic_table.specs.Table.{State, Me}
use Rattle.kp_turn.specs.declared.stop.StopView.{StopView}

-- the word is 0 or 1; it is 1 exactly where a view has set it, and where a view has found it set
pub record IsStopWord (s : State (Unit {0}) StopView) : Type 0 where
  pub wide : length s.words ≡ 1
  pub binary : slice_index s.words 0 ≤ 1
  pub set_is : (j : ℕ) (v : StopView) → get_elem? s.views j ≡ some v → 0 < v.sets → slice_index s.words 0 ≡ 1
  pub read_is : (j : ℕ) (v : StopView) → get_elem? s.views j ≡ some v → 0 < v.reads → slice_index s.words 0 ≡ 1
  pub setter : slice_index s.words 0 ≡ 1 → (j : ℕ) × (v : StopView) × (get_elem? s.views j ≡ some v) × (0 < v.sets)

-- the view of a new seat
abbrev pub no_stop : StopView
no_stop = record { sets = 0; reads = 0; splits = 0 }

-- the seat has loaded the word once more, and found it set or not
abbrev pub with_read : Bool → StopView → StopView
with_read true v = record v { reads = v.reads + 1 }
with_read false v = v

-- the seat has set the word once more
abbrev pub with_set : StopView → StopView
with_set v = record v { sets = v.sets + 1 }

-- one more seat was split off
abbrev pub with_stop_split : StopView → StopView
with_stop_split v = record v { splits = v.splits + 1 }

abbrev pub StopSitting : Type 0
StopSitting = Me (Unit {0}) StopView

-- loading: a 1 counts, and it is 1 where the seat has set the word or found it set before
abbrev pub read : StopSitting → ℕ → StopSitting → Type 0
read m r n = (r ≤ 1) × (0 < m.0.sets + m.0.reads → r ≡ 1) × (n ≡ (record m.0 { reads = m.0.reads + r }, m.1))

-- setting
abbrev pub was_set : StopSitting → ℕ → StopSitting → Type 0
was_set m r n = n ≡ (with_set m.0, m.1)
