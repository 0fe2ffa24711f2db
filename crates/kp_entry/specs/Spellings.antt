-- Values that are held as their spellings.
use Rattle.std.specs.Prelude.{◌≡◌, ℕ, ◌^◌, ◌<◌, List, [], ◌∷◌, ◌++◌, length, map, Option, Some, None, Result, Ok, Err, IfSome, ◌&&◌, IsTrue}
use Rattle.std.specs.List.{concat}
use Rattle.kp_jute.specs.declared.fault.JuteFail.{JuteFail}
use Rattle.kp_jute.specs.Form.{Place, Form, front}
use Rattle.kp_model.specs.LogEntry.{LogEntry}
use Rattle.kp_model.specs.Grammar.{is_number}
use Rattle.kp_model.specs.declared.entry.Body.TheVariants as body
use Rattle.kp_entry.specs.declared.record.Record.{Record}
use Rattle.kp_entry.specs.declared.record.Record.TheVariants as record_
use Rattle.kp_entry.specs.declared.records.Base.{Base}
use Rattle.kp_entry.specs.Entries.{entries}
use Rattle.kp_entry.specs.Records.{records}

-- the value that was read, or another one where none was
abbrev pub read_or : {A : Type 0} → A → Result (A × Place) JuteFail → A
read_or other (Ok x) = x.0
read_or other (Err e) = other

-- the entry that the bytes spell; what spells none stands for a no-op
unfoldable pub entry_of : List ℕ → LogEntry
entry_of bytes = read_or (record { term = 0; time = 0; body = body.Noop }) (entries.read (front 0 bytes))

-- the record that the bytes spell; what spells none stands for the start of number 0
unfoldable pub record_of : List ℕ → Record
record_of bytes = read_or (record_.Boot 0) (records.read (front 0 bytes))

-- the bytes spell a value of the form
abbrev pub Spells : {A : Type 0} → Form A → List ℕ → Type 0
Spells {A} f bytes = (v : A) × f.Fits v × (bytes ≡ f.spell v)

-- each of these does
abbrev pub AllSpell : {A : Type 0} → Form A → List (List ℕ) → Type 0
AllSpell f [] = Unit {0}
AllSpell f (s ∷ ss) = Spells f s × AllSpell f ss

abbrev pub IsEntryBytes : List ℕ → Type 0
IsEntryBytes bytes = Spells entries bytes

abbrev pub IsRecordBytes : List ℕ → Type 0
IsRecordBytes bytes = Spells records bytes

-- ---- a list of entries

-- what holds of the strings of a list of entries
pub record AreEntries (strings : List (List ℕ)) : Type 0 where
  pub spelled : AllSpell entries strings
  pub few : length strings < 2 ^ 32

-- ---- a list of records: those with bytes, and a base behind them

abbrev pub listed : List (List ℕ) → Option Base → List Record
listed strings None = map record_of strings
listed strings (Some b) = map record_of strings ++ record_.Base b.index b.term ∷ []

-- the record is this base, or none where there is no base
abbrev pub IsBaseOf : Record → Option Base → Type 0
IsBaseOf (record_.Base index term) None = ⊥
IsBaseOf (record_.Base index term) (Some b) = (b.index ≡ index) × (b.term ≡ term)
IsBaseOf (record_.Vote term vote) o = o ≡ None
IsBaseOf (record_.Boot boot) o = o ≡ None
IsBaseOf (record_.Append entry) o = o ≡ None
IsBaseOf (record_.Truncate last) o = o ≡ None

abbrev pub FitsBase : Base → Type 0
FitsBase b = IsTrue (is_number b.index && is_number b.term)

-- what holds of the parts of a list of records
pub record AreRecords (strings : List (List ℕ)) (base : Option Base) : Type 0 where
  pub spelled : AllSpell records strings
  pub small : length (concat strings) < 2 ^ 32
  pub base_fits : IfSome base FitsBase
