-- The records of a server's steps as bytes.
use Rattle.std.specs.Prelude.{◌≡◌, ℕ, Bool, true, false, nat_le, List, [], ◌∷◌, ◌++◌, Option, Some, None, IsTrue, ◌&&◌}
use Rattle.std.specs.List.{flat_map, list_any}
use Rattle.kp_model.specs.Grammar.{is_number}
use Rattle.kp_model.specs.LogEntry.{LogEntry}
use Rattle.kp_jute.specs.Form.{Reading, Form, ◌⊗◌, part, tagged}
use Rattle.kp_entry.specs.declared.kinds.RecordKind.{RecordKind}
use Rattle.kp_entry.specs.declared.kinds.RecordKind.TheVariants as record_kind
use Rattle.kp_entry.specs.declared.record.Record.{Record}
use Rattle.kp_entry.specs.declared.record.Record.TheVariants as record_
use Rattle.kp_entry.specs.Fields.{u8s, limited, numbers, kinds, read_of}
use Rattle.kp_entry.specs.Entries.{entries}

-- the number of a server, or 0 for none
abbrev pub is_vote : ℕ → Bool
is_vote n = nat_le n 7

abbrev pub votes : Form ℕ
votes = limited is_vote u8s

-- term and vote
abbrev pub ballots : Form (ℕ × ℕ)
ballots = numbers ⊗ votes

abbrev pub record_number : RecordKind → ℕ
record_number record_kind.Vote = 1
record_number record_kind.Boot = 2
record_number record_kind.Append = 3
record_number record_kind.Truncate = 4

abbrev pub record_kinds : List RecordKind
record_kinds = record_kind.Vote ∷ record_kind.Boot ∷ record_kind.Append ∷ record_kind.Truncate ∷ []

abbrev pub RecordFields : RecordKind → Type 0
RecordFields record_kind.Vote = ℕ × ℕ
RecordFields record_kind.Boot = ℕ
RecordFields record_kind.Append = LogEntry
RecordFields record_kind.Truncate = ℕ

abbrev pub record_fields : (k : RecordKind) → Form (RecordFields k)
record_fields record_kind.Vote = ballots
record_fields record_kind.Boot = numbers
record_fields record_kind.Append = entries
record_fields record_kind.Truncate = numbers

abbrev pub record_with : (k : RecordKind) → RecordFields k → Record
record_with record_kind.Vote t = record_.Vote t.0 t.1
record_with record_kind.Boot t = record_.Boot t
record_with record_kind.Append t = record_.Append t
record_with record_kind.Truncate t = record_.Truncate t

abbrev pub record_to : (k : RecordKind) × RecordFields k → Record
record_to t = record_with t.0 t.1

-- a base has no bytes
abbrev pub record_from : Record → Option ((k : RecordKind) × RecordFields k)
record_from (record_.Vote term vote) = Some (record_kind.Vote, (term, vote))
record_from (record_.Boot boot) = Some (record_kind.Boot, boot)
record_from (record_.Append entry) = Some (record_kind.Append, entry)
record_from (record_.Truncate last) = Some (record_kind.Truncate, last)
record_from (record_.Base index term) = None

-- a record of this kind, from its fields
unfoldable pub record_in : RecordKind → Reading Record
record_in k p = read_of record_fields record_with k p

abbrev pub records : Form Record
records = part record_to record_from (tagged (kinds record_kinds record_number) record_fields)

-- ---- lists of records

abbrev pub is_base : Record → Bool
is_base (record_.Vote term vote) = false
is_base (record_.Boot boot) = false
is_base (record_.Append entry) = false
is_base (record_.Truncate last) = false
is_base (record_.Base index term) = true

-- its numbers are in their ranges, and an entry is one of the format
abbrev pub IsRecord : Record → Type 0
IsRecord (record_.Vote term vote) = records.Fits (record_.Vote term vote)
IsRecord (record_.Boot boot) = records.Fits (record_.Boot boot)
IsRecord (record_.Append entry) = records.Fits (record_.Append entry)
IsRecord (record_.Truncate last) = records.Fits (record_.Truncate last)
IsRecord (record_.Base index term) = IsTrue (is_number index && is_number term)

-- the bytes of the records, one behind the other
unfoldable pub spelled : List Record → List ℕ
spelled rs = flat_map records.spell rs

-- whether one of them is a base
abbrev pub has_base : List Record → Bool
has_base rs = list_any is_base rs

-- each is a record, and a base is only ever the last
abbrev pub IsRun : List Record → Type 0
IsRun [] = Unit {0}
IsRun (r ∷ rs) = IsRecord r × (is_base r ≡ true → rs ≡ []) × IsRun rs

-- the record's bytes stand behind what was written before
pub record Added (r : Record) (old new : List ℕ) : Type 0 where
  pub fits : IsRecord r
  pub added : new ≡ old ++ records.spell r
