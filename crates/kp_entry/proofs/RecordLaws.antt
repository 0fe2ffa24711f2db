-- Records: their form is lawful.
use Rattle.std.proofs.Common.{◌≡◌, Some, refl, sym, ap}
use Rattle.kp_jute.specs.Form.{Lawful, tagged}
use Rattle.kp_jute.proofs.Combined.{part_lawful, ◌&◌}
use Rattle.kp_jute.proofs.Cases.{tagged_lawful}
use Rattle.kp_entry.specs.declared.kinds.RecordKind.{RecordKind}
use Rattle.kp_entry.specs.declared.kinds.RecordKind.TheVariants as record_kind
use Rattle.kp_entry.specs.declared.record.Record.{Record}
use Rattle.kp_entry.specs.declared.record.Record.TheVariants as record_
use Rattle.kp_entry.specs.Fields.{u8s, kinds}
use Rattle.kp_entry.specs.Records.{is_vote, record_kinds, record_number, RecordFields, record_fields, record_to, record_from, records}
use Rattle.kp_entry.proofs.FieldLaws.{u8s_lawful, limited_lawful, numbers_lawful, kinds_lawful}
use Rattle.kp_entry.proofs.EntryLaws.{entries_lawful}

record_fields_lawful : (k : RecordKind) → Lawful (record_fields k)
record_fields_lawful record_kind.Vote = numbers_lawful & limited_lawful is_vote u8s u8s_lawful
record_fields_lawful record_kind.Boot = numbers_lawful
record_fields_lawful record_kind.Append = entries_lawful
record_fields_lawful record_kind.Truncate = numbers_lawful

record_there : (t : (k : RecordKind) × RecordFields k) → record_from (record_to t) ≡ Some t
record_there (record_kind.Vote, t) = refl
record_there (record_kind.Boot, t) = refl
record_there (record_kind.Append, t) = refl
record_there (record_kind.Truncate, t) = refl

some_is : {A : Type 0} (a b : A) → Some a ≡ Some b → a ≡ b
some_is a b e = cc

record_back : (r : Record) (t : (k : RecordKind) × RecordFields k) → record_from r ≡ Some t → record_to t ≡ r
record_back (record_.Vote term vote) t e = ap record_to (sym (some_is (record_kind.Vote, (term, vote)) t e))
record_back (record_.Boot boot) t e = ap record_to (sym (some_is (record_kind.Boot, boot) t e))
record_back (record_.Append entry) t e = ap record_to (sym (some_is (record_kind.Append, entry) t e))
record_back (record_.Truncate last) t e = ap record_to (sym (some_is (record_kind.Truncate, last) t e))
record_back (record_.Base index term) t e = absurd cc

pub records_lawful : Lawful records
records_lawful = part_lawful record_to record_from (tagged (kinds record_kinds record_number) record_fields) record_there record_back (tagged_lawful (kinds record_kinds record_number) record_fields (kinds_lawful record_kinds record_number) record_fields_lawful)
