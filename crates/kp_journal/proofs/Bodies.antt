-- The records of a batch are read again.
use Rattle.std.proofs.Common.{◌≡◌, ℕ, zero, suc, ◌+◌, ◌≤◌, Bool, true, false, ◌||◌, List, [], ◌∷◌, ◌++◌, length, Ok, refl, sym, ◌∙◌, ap, arith, length-append}
use Rattle.std.proofs.lemmas.List.Concat.{flat_map-cons}
use Rattle.kp_jute.specs.Form.{Place, front, ◌>>=◌}
use Rattle.kp_jute.specs.Jute.{unsigned}
use Rattle.kp_entry.specs.declared.record.Record.{Record}
use Rattle.kp_entry.specs.declared.record.Record.TheVariants as record_
use Rattle.kp_entry.specs.Records.{records, spelled, is_base, has_base, IsRun}
use Rattle.kp_entry.proofs.RecordLaws.{records_lawful}
use Rattle.kp_entry.proofs.Runs.{record_fits}
use Rattle.kp_journal.specs.Frames.{no_run, one_at, with_run, run_from, run_at}
use Rattle.kp_journal.specs.Journals.{run_of}

spelled_cons : (r : Record) (rs : List Record) → spelled (r ∷ rs) ≡ records.spell r ++ spelled rs
unfolding spelled
spelled_cons r rs = flat_map-cons records.spell r rs

spelled_nil : spelled [] ≡ []
unfolding spelled
spelled_nil = refl

-- a record has at least its tag
pub some_byte : (r : Record) → records.Fits r → (b : ℕ) × (bytes : List ℕ) × (records.spell r ≡ b ∷ bytes)
unfolding unsigned
some_byte (record_.Vote term vote) fits = (_, _, refl)
some_byte (record_.Boot boot) fits = (_, _, refl)
some_byte (record_.Append entry) fits = (_, _, refl)
some_byte (record_.Truncate last) fits = (_, _, refl)
some_byte (record_.Base index term) fits = absurd (cc fits.1)

-- what goes on from a record that was read
pub read_step : (k at : ℕ) (b : ℕ) (bytes : List ℕ) (r : Record) (q : Place) → records.read (front at (b ∷ bytes)) ≡ Ok (r, q)
    → run_from (suc k) at (b ∷ bytes) ≡ with_run (one_at at r) (run_from k q.at q.rest)
unfolding run_from
read_step k at b bytes r q e = ap (λ m. m >>= λ (x : Record × Place). with_run (one_at at x.0) (run_from k x.1.at x.1.rest)) e

pub run_none : (k at : ℕ) → run_from k at [] ≡ Ok no_run
unfolding run_from
run_none k at = refl

first_false : (a b : Bool) → (a || b) ≡ false → a ≡ false
first_false true b e = absurd cc
first_false false b e = refl

second_false : (a b : Bool) → (a || b) ≡ false → b ≡ false
second_false true b e = absurd cc
second_false false b e = e

-- the first record and its bytes
record First (at : ℕ) (r : Record) (rs : List Record) : Type 0 where
  tag : ℕ
  bytes : List ℕ
  whole : spelled (r ∷ rs) ≡ tag ∷ (bytes ++ spelled rs)
  there : records.read (front at (tag ∷ (bytes ++ spelled rs))) ≡ Ok (r, front (at + length (records.spell r)) (spelled rs))

first_of : (at : ℕ) (r : Record) (rs : List Record) → records.Fits r → First at r rs
first_of at r rs fits =
    let t = some_byte r fits in
    record {
      tag = t.0;
      bytes = t.1;
      whole = spelled_cons r rs ∙ ap (λ (l : List ℕ). l ++ spelled rs) t.2;
      there = ap (λ (l : List ℕ). records.read (front at (l ++ spelled rs))) (sym t.2) ∙ records_lawful.again r at (spelled rs) fits;
    }

read_spelled : (k at : ℕ) (rs : List Record) → IsRun rs → has_base rs ≡ false → length (spelled rs) ≤ k → run_from k at (spelled rs) ≡ Ok (run_of at rs)
read_spelled k at [] run based le = ap (run_from k at) spelled_nil ∙ run_none k at
read_spelled zero at (r ∷ rs) run based le =
    let f = first_of at r rs (record_fits r (first_false (is_base r) (has_base rs) based) run.0) in
    absurd (omega (arith, le, ap length f.whole))
read_spelled (suc k) at (r ∷ rs) run based le =
    let f = first_of at r rs (record_fits r (first_false (is_base r) (has_base rs) based) run.0) in
    ap (run_from (suc k) at) f.whole
    ∙ read_step k at f.tag (f.bytes ++ spelled rs) r (front (at + length (records.spell r)) (spelled rs)) f.there
    ∙ ap (with_run (one_at at r)) (read_spelled k (at + length (records.spell r)) rs run.2 (second_false (is_base r) (has_base rs) based) (omega (arith, le, ap length f.whole, length-append f.bytes (spelled rs))))

pub spelled_again : (at : ℕ) (rs : List Record) → IsRun rs → has_base rs ≡ false → run_at at (spelled rs) ≡ Ok (run_of at rs)
spelled_again at rs run based = read_spelled (length (spelled rs)) at rs run based (omega arith)
