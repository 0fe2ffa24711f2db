-- The batches of a journal, from a gate on, and their records.
use Rattle.std.specs.Prelude.{ℕ, zero, suc, ◌+◌, cond, nat_lt, nat_eq, List, [], ◌∷◌, ◌++◌, length, take, drop, Result, Ok, Err}
use Rattle.std.specs.Int.{w32, from_be_bytes}
use Rattle.kp_jute.specs.declared.fault.JuteFail.{JuteFail}
use Rattle.kp_jute.specs.declared.fault.JuteFail.TheVariants.{Short}
use Rattle.kp_jute.specs.Form.{◌>>=◌, front}
use Rattle.kp_entry.specs.declared.record.Record.{Record}
use Rattle.kp_entry.specs.Records.{records}

-- records, and the place of the first byte of each
pub record Run : Type 0 where
  pub records : List Record
  pub places : List ℕ

abbrev pub no_run : Run
no_run = record { records = []; places = [] }

-- one record at a place
abbrev pub one_at : ℕ → Record → Run
one_at at r = record { records = r ∷ []; places = at ∷ [] }

-- one run of records, and then another
abbrev pub then_run : Run → Run → Run
then_run a b = record { records = a.records ++ b.records; places = a.places ++ b.places }

-- the records so far, and what is read behind them
abbrev pub with_run : Run → Result Run JuteFail → Result Run JuteFail
with_run run more = more >>= λ next. Ok (then_run run next)

-- the records that stand from a place on up to the end of these bytes; the number is at least that of the bytes
unfoldable pub run_from : ℕ → ℕ → List ℕ → Result Run JuteFail
run_from k at [] = Ok no_run
run_from zero at (b ∷ bytes) = Err (Short at)
run_from (suc k) at (b ∷ bytes) = records.read (front at (b ∷ bytes)) >>= λ x. with_run (one_at at x.0) (run_from k x.1.at x.1.rest)

abbrev pub run_at : ℕ → List ℕ → Result Run JuteFail
run_at at bytes = run_from (length bytes) at bytes

-- the records behind open gates, up to the first gate that is not open, and the place of that gate
pub record Framed : Type 0 where
  pub run : Run
  pub gate : ℕ

-- a gate that is not open
abbrev pub shut_at : ℕ → Framed
shut_at at = record { run = no_run; gate = at }

-- a batch, and what is framed behind it
abbrev pub behind : Run → Framed → Framed
behind run f = record { run = then_run run f.run; gate = f.gate }

-- the length field at the front
abbrev pub body_len : List ℕ → ℕ
body_len rest = from_be_bytes w32 (take 4 rest)

-- what is framed from the length of a batch at a place on, and behind the batch by `more`
abbrev pub batch_by : (ℕ → List ℕ → Result Framed JuteFail) → ℕ → List ℕ → Result Framed JuteFail
batch_by more at rest =
    cond (nat_lt (length rest) (4 + body_len rest)) (Err (Short at))
    (run_at (at + 4) (take (body_len rest) (drop 4 rest)) >>= λ run. more (at + (4 + body_len rest)) (drop (4 + body_len rest) rest) >>= λ f. Ok (behind run f))

-- what is framed from the gate at a place on. Refused are a gate that is missing, at its place; a batch that is longer than what is left,
-- at its length; and a record, at its field. The number is at least that of the bytes
unfoldable pub frames : ℕ → ℕ → List ℕ → Result Framed JuteFail
frames k at [] = Err (Short at)
frames zero at (g ∷ rest) = Err (Short at)
frames (suc k) at (g ∷ rest) = cond (nat_eq g 1) (batch_by (frames k) (at + 1) rest) (Ok (shut_at at))
