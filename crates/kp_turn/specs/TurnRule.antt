-- The rule of the table of a turn. Word 0 is the number of events in the history. Word 1 is 0 exactly where no seat has the turn.
use Rattle.std.specs.Prelude.{◌≡◌, ℕ, ◌^◌, ◌<◌, ◌≤◌, IsTrue, List, length, slice_index}
use mathlib.Core.Option.{Option, some}
use lib.ListN.{get_elem?}
use Rattle.atomic_table.specs.Table.{State}
use Rattle.kp_turn.specs.declared.view.TurnView.{TurnView}
use Rattle.kp_turn.specs.declared.view.TurnSlot.{TurnSlot}
use Rattle.kp_turn.specs.History.{Runs, Leads, IsPrefix}

module _ {T E A : Type 0} (start : T) where
  -- what the seat `id` knows is true of this history and of the turn word, where the seat `holder` has the turn if any has it
  pub record Fits (log : List (E × A × T)) (turn holder id : ℕ) (v : TurnView T E A) : Type 0 where
    pub began : v.start ≡ start
    pub prefix : IsPrefix v.seen log
    pub owns : IsTrue v.has_turn → (id ≡ holder) × (v.seen ≡ log) × (0 < turn)
    pub places : (n k : ℕ) → get_elem? v.mine n ≡ some k → k < length log

-- no place of the history is the own place of two seats
abbrev pub Apart : {T E A : Type 0} → List (TurnView T E A) → Type 0
Apart {T} {E} {A} views = (i j : ℕ) (v w : TurnView T E A) (m n k : ℕ) → get_elem? views i ≡ some v → get_elem? views j ≡ some w
    → get_elem? v.mine m ≡ some k → get_elem? w.mine n ≡ some k → i ≡ j

module _ {T E A : Type 0} (events : T → ℕ) (steps : T → E → A → T → Type 0) (start : T) where
  -- the value at home is one that the history leads to
  abbrev pub Home : List (E × A × T) → List (Option (TurnSlot T E A)) → Type 0
  Home log homes = (x : TurnSlot T E A) × (get_elem? homes 0 ≡ some (some x)) × Leads events steps start log x.value

  -- one history, whose length is the count; what each seat knows of it is true; the turn word is 0 exactly where no seat has the
  -- turn, and then the value is at home
  pub record IsOneHistory (s : State (TurnSlot T E A) (TurnView T E A)) : Type 0 where
    pub log : List (E × A × T)
    pub holder : ℕ
    pub wide : length s.words ≡ 2
    pub bounded : length log ≤ 2 ^ 62
    pub counted : slice_index s.words 0 ≡ length log
    pub runs : Runs steps start log
    pub each : (j : ℕ) (v : TurnView T E A) → get_elem? s.views j ≡ some v → Fits start log (slice_index s.words 1) holder j v
    pub held : 0 < slice_index s.words 1 → (v : TurnView T E A) × (get_elem? s.views holder ≡ some v) × IsTrue v.has_turn
    pub apart : Apart s.views
    pub home : slice_index s.words 1 ≡ 0 → Home log s.homes
