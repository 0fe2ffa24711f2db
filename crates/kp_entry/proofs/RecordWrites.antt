-- What a record's kind and its fields add.
use Rattle.std.proofs.Common.{◌≡◌, ℕ, List, Some, Result, Ok, Err, refl, sym, subst}
use Rattle.std.specs.Prelude.{OnOk}
use Rattle.kp_jute.specs.Form.{Wrote, tagged}
use Rattle.kp_model.specs.declared.memory.NoMemory.{NoMemory}
use Rattle.kp_entry.specs.declared.kinds.RecordKind.{RecordKind}
use Rattle.kp_entry.specs.declared.kinds.RecordKind.TheVariants as record_kind
use Rattle.kp_entry.specs.declared.record.Record.{Record}
use Rattle.kp_entry.specs.Fields.{u8s, kind_in, kinds}
use Rattle.kp_entry.specs.Records.{record_kinds, record_number, RecordFields, record_fields, record_with, Added}
use Rattle.kp_entry.proofs.Writes.{kind_written}

record_known : (k : RecordKind) → kind_in record_kinds record_number (record_number k) ≡ Some k
record_known record_kind.Vote = refl
record_known record_kind.Boot = refl
record_known record_kind.Append = refl
record_known record_kind.Truncate = refl

-- a record with bytes is one of the format where its fields are
with_fits : (k : RecordKind) (t : RecordFields k) (a c : List ℕ) → Wrote (tagged (kinds record_kinds record_number) record_fields) (k, t) a c → Added (record_with k t) a c
with_fits record_kind.Vote t a c w = record { fits = ((record_kind.Vote, t), refl, w.fits); added = w.added }
with_fits record_kind.Boot t a c w = record { fits = ((record_kind.Boot, t), refl, w.fits); added = w.added }
with_fits record_kind.Append t a c w = record { fits = ((record_kind.Append, t), refl, w.fits); added = w.added }
with_fits record_kind.Truncate t a c w = record { fits = ((record_kind.Truncate, t), refl, w.fits); added = w.added }

pub record_put : (k : RecordKind) (t : RecordFields k) (o : Record) → o ≡ record_with k t → (r : Result (Unit {0}) NoMemory) (a b c : List ℕ) → Wrote u8s (record_number k) a b → OnOk r (Wrote (record_fields k) t b c) → OnOk r (Added o a c)
record_put k t o is (Ok u) a b c p q = subst (λ (x : Record). Added x a c) (sym is) (with_fits k t a c (kind_written record_kinds record_number record_fields (k, t) (Ok u) a b c (record_known k) p q))
record_put k t o is (Err e) a b c p q = tt
