-- The records of a step, kind by kind, and parts of a list of entries.
use Rattle.std.specs.Prelude.{ℕ, List, [], ◌∷◌, map, take, drop, Option, Some, None}
use Rattle.kp_model.specs.LogEntry.{LogEntry}
use Rattle.kp_entry.specs.declared.record.Record.{Record}
use Rattle.kp_entry.specs.declared.record.Record.TheVariants as record_

-- the record of a term and a vote, where there is one
abbrev pub voted : Option (ℕ × ℕ) → List Record
voted None = []
voted (Some v) = record_.Vote v.0 v.1 ∷ []

-- the record of a truncation, where there is one
abbrev pub cut_off : Option ℕ → List Record
cut_off None = []
cut_off (Some last) = record_.Truncate last ∷ []

-- the records of entries that the log gets
abbrev pub appended : List LogEntry → List Record
appended es = map (λ e. record_.Append e) es

-- the entries from one place on, counted from 0, and before another
abbrev pub part_of : ℕ → ℕ → List LogEntry → List LogEntry
part_of first until es = drop first (take until es)
