-- How a log's entries stand in a region: each as its bytes.
use Rattle.std.specs.Prelude.{◌≡◌, ℕ, ◌+◌, ◌^◌, ◌≤◌, List, [], ◌∷◌, length, take, map}
use Rattle.std.specs.List.{concat}
use Rattle.kp_model.specs.LogEntry.{LogEntry}
use Rattle.kp_entry.specs.Entries.{entries}
use Rattle.kp_entry.specs.Log.{Log, batch}
use Rattle.kp_entry.specs.Pieces.{AreOf}
use Rattle.kp_entry.specs.Spellings.{AllSpell, entry_of}
use Rattle.kp_region.specs.Marked.{Marked}

abbrev pub shown : Marked → ℕ → ℕ → Log
shown region base base_term = record { base = base; base_term = base_term; entries = map entry_of region.strings }

-- what holds of the parts of a log
pub record HoldsTogether (region : Marked) (base base_term last : ℕ) : Type 0 where
  pub spelled : AllSpell entries region.strings
  pub ends : last ≡ base + length region.strings
  pub fits : last ≤ 2 ^ 62
  pub term_fits : base_term ≤ 2 ^ 62

-- how many bytes the entries have together
abbrev pub total : List LogEntry → ℕ
total [] = 0
total (e ∷ es) = length (entries.spell e) + total es

-- the bytes of the entries, one behind the other
abbrev pub joined : List LogEntry → List ℕ
joined es = concat (map entries.spell es)

-- as many as there are ends, the first of these entries are those that one message takes, and each ends where it is said
pub record AreBatchEnds (ends : List ℕ) (es : List LogEntry) : Type 0 where
  pub taken : take (length ends) es ≡ batch 64 1048576 es
  pub within : length ends ≤ length es
  pub few : length ends ≤ 64
  pub ended : AreOf (joined (take (length ends) es)) ends (map entries.spell (take (length ends) es))
