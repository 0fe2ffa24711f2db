-- Records and batches that are read from bytes.
use Rattle.std.proofs.Common.{◌≡◌, ℕ, zero, suc, ◌+◌, ◌-◌, ◌≤◌, ◌<◌, Bool, true, false, cond, List, [], ◌∷◌, ◌++◌, length, take, drop, Some, None, Result, Ok, Err, refl, sym, ◌∙◌, ap, subst, arith, length-append}
use Rattle.std.specs.Prelude.{nat_lt, ◌||◌, IfErr}
use Rattle.std.proofs.lemmas.Bool.Decides.{nat_tests}
use Rattle.std.proofs.lemmas.List.{take_at, drop-drop, drop-take}
use Rattle.kp_jute.specs.declared.fault.JuteFail.{JuteFail}
use Rattle.kp_jute.specs.declared.fault.JuteFail.TheVariants as jute
use Rattle.kp_jute.specs.Form.{Place, front, ◌>>=◌, Gives, Fails, IsOfBytes, IsBytes}
use Rattle.kp_jute.specs.Jute.{raw_at, raws}
use Rattle.kp_jute.proofs.Combined.{ok_is}
use Rattle.kp_jute.proofs.Loops.{failed}
use Rattle.kp_entry.specs.declared.record.Record.{Record}
use Rattle.kp_entry.specs.Records.{records, is_base, has_base}
use Rattle.kp_entry.specs.Spellings.{record_of, IsRecordBytes}
use Rattle.kp_entry.proofs.RecordLaws.{records_lawful}
use Rattle.kp_entry.proofs.Spelled.{record_again}
use Rattle.kp_entry.proofs.Runs.{spelled_no_base, open_behind}
use Rattle.kp_journal.specs.Frames.{Run, one_at, then_run, with_run, run_from, run_at, body_len}
use Rattle.kp_journal.specs.Answers.{batch_end, batch_run}
use Rattle.kp_journal.proofs.Bodies.{some_byte, read_step, run_none}
use Rattle.kp_journal.proofs.Framing.{test_long, run_then, then_none}

-- ---- readers

not_read : {A : Type 0} (e : JuteFail) (x : A) (read : Result A JuteFail) → read ≡ Ok x → IsOfBytes e → Fails e read → ⊥
not_read {A} jute.NoMemory x read is of f = of
not_read {A} (jute.Short at) x read is of f = err_ok (jute.Short at) x (sym f ∙ is)
  where
    err_ok : (e : JuteFail) (x : A) → Err e ≡ Ok x → ⊥
    err_ok e x clash = absurd cc
not_read {A} (jute.BadLength at) x read is of f = err_ok (jute.BadLength at) x (sym f ∙ is)
  where
    err_ok : (e : JuteFail) (x : A) → Err e ≡ Ok x → ⊥
    err_ok e x clash = absurd cc
not_read {A} (jute.BadByte at) x read is of f = err_ok (jute.BadByte at) x (sym f ∙ is)
  where
    err_ok : (e : JuteFail) (x : A) → Err e ≡ Ok x → ⊥
    err_ok e x clash = absurd cc

raw_is : (n : ℕ) (bytes : List ℕ) → n ≤ length bytes → raw_at 0 n (front 0 bytes) ≡ Ok (take n bytes, front n (drop n bytes))
unfolding raw_at
raw_is n bytes le = let none : 0 + n ≡ n = omega arith in rw (test_long (length bytes) n le) (ap (λ (k : ℕ). Ok (take n bytes, front k (drop n bytes))) none)

-- a reader that has taken the first n bytes
pub passed : {X : Type 0} (view : X → List ℕ) (r : Result X JuteFail) (p new : Place) (n : ℕ) (bytes : List ℕ) → p ≡ front 0 bytes → n ≤ length bytes → IfErr r (λ e. IsOfBytes e) → Gives view r new ((raws n).read p)
    → new ≡ front n (drop n bytes)
passed view (Ok x) p new n bytes at le of g = ap (λ (y : List ℕ × Place). y.1) (ok_is (view x, new) (take n bytes, front n (drop n bytes)) (sym g ∙ ap (λ (y : Place). (raws n).read y) at ∙ raw_is n bytes le))
passed view (Err e) p new n bytes at le of g = absurd (not_read e (take n bytes, front n (drop n bytes)) ((raws n).read p) (ap (λ (y : Place). (raws n).read y) at ∙ raw_is n bytes le) of g)

-- ---- one record

-- a record was read from these bytes, of which the first is at a and the last before b
pub record WasRead (rest : List ℕ) (a b : ℕ) (r : Record) : Type 0 where
  pub order : a ≤ b
  pub inside : b - a ≤ length rest
  pub text : take (b - a) rest ≡ records.spell r
  pub fits : records.Fits r
  pub again : record_of (take (b - a) rest) ≡ r

pub was_read : (rest : List ℕ) (a b : ℕ) (p q : Place) (r : Record) → IsBytes rest → rest ≡ p.rest → a ≡ p.at → b ≡ q.at → records.read p ≡ Ok (r, q) → WasRead rest a b r × (length q.rest < length p.rest)
was_read rest a b p q r bytes is from until e =
    let t = records_lawful.takes p r q (subst IsBytes is bytes) e in
    let tag = some_byte r t.1 in
    let len : b ≡ a + length (records.spell r) = until ∙ t.0.moved ∙ ap (λ (k : ℕ). k + length (records.spell r)) (sym from) in
    let size : b - a ≡ length (records.spell r) = omega (arith, len) in
    let text : take (b - a) rest ≡ records.spell r = ap (take (b - a)) (is ∙ t.0.parts) ∙ take_at (records.spell r) q.rest (b - a) (sym size) in (
      record {
        order = omega (arith, len);
        inside = omega (arith, size, ap length is, ap length t.0.parts, length-append (records.spell r) q.rest);
        text = text;
        fits = t.1;
        again = ap record_of text ∙ record_again r t.1;
      },
      omega (arith, ap length t.0.parts, length-append (records.spell r) q.rest, ap length tag.2),
    )

or_none : (b : Bool) → b ≡ false → (b || false) ≡ false
or_none true e = absurd (cc e)
or_none false e = refl

-- the lists stay of one length, and no base is among the records
pub added_one : (rs new : List Record) (ps ps' new' : List ℕ) (bytes : List ℕ) (at : ℕ) → (length rs ≡ length ps) × (has_base rs ≡ false) → IsRecordBytes bytes → new ≡ rs ++ record_of bytes ∷ [] → ps' ≡ ps → new' ≡ ps' ++ at ∷ []
    → (length new ≡ length new') × (has_base new ≡ false)
added_one rs new ps ps' new' bytes at both spells is same is' = (
  omega (arith, ap length is, ap length is', ap length same, length-append rs (record_of bytes ∷ []), length-append ps' (at ∷ []), both.0),
  open_behind rs (record_of bytes ∷ []) new both.1 (or_none (is_base (record_of bytes)) (spelled_no_base bytes spells)) is,
)

-- ---- records up to the end

-- what is still read gives what was to be read
pub record RunsOn (run : Run) (p : Place) (total : Result Run JuteFail) : Type 0 where
  pub fuel : ℕ
  pub enough : length p.rest ≤ fuel
  pub so_far : with_run run (run_from fuel p.at p.rest) ≡ total

with_two : (a b : Run) (m : Result Run JuteFail) → with_run a (with_run b m) ≡ with_run (then_run a b) m
with_two a b (Ok x) = ap Ok (sym (run_then a b x))
with_two a b (Err e) = refl

pub run_goes_on : (run new : Run) (at : ℕ) (rest : List ℕ) (r : Record) (q : Place) (total : Result Run JuteFail) → RunsOn run (front at rest) total → records.read (front at rest) ≡ Ok (r, q) → new ≡ then_run run (one_at at r)
    → length q.rest < length rest → RunsOn new q total
run_goes_on run new at [] r q total on e is shorter = absurd (omega (arith, shorter))
run_goes_on run new at (b ∷ bytes) r q total on e is shorter = by_fuel on.fuel on.enough on.so_far
  where
    by_fuel : (k : ℕ) → length (b ∷ bytes) ≤ k → with_run run (run_from k at (b ∷ bytes)) ≡ total → RunsOn new q total
    by_fuel zero le so_far = absurd (omega (arith, le))
    by_fuel (suc k) le so_far = record {
      fuel = k;
      enough = omega (arith, le, shorter);
      so_far = ap (λ (x : Run). with_run x (run_from k q.at q.rest)) is ∙ sym (with_two run (one_at at r) (run_from k q.at q.rest)) ∙ ap (with_run run) (sym (read_step k at b bytes r q e)) ∙ so_far;
    }

-- a record that is refused refuses the whole
pub run_fails : (run : Run) (at : ℕ) (rest : List ℕ) (e : JuteFail) (total : Result Run JuteFail) → RunsOn run (front at rest) total → 0 < length rest → Fails e (records.read (front at rest)) → Fails e total
unfolding run_from
run_fails run at [] e total on some f = absurd (omega (arith, some))
run_fails run at (b ∷ bytes) e total on some f = failed e (records.read (front at (b ∷ bytes))) total (λ e' is. by_fuel on.fuel on.enough on.so_far e' is) f
  where
    by_fuel : (k : ℕ) → length (b ∷ bytes) ≤ k → with_run run (run_from k at (b ∷ bytes)) ≡ total → (e' : JuteFail) → records.read (front at (b ∷ bytes)) ≡ Err e' → total ≡ Err e'
    by_fuel zero le so_far e' is = absurd (omega (arith, le))
    by_fuel (suc k) le so_far e' is = sym so_far ∙ ap (λ m. with_run run (m >>= λ (x : Record × Place). with_run (one_at at x.0) (run_from k x.1.at x.1.rest))) is

pub run_ends : (run : Run) (at : ℕ) (rest : List ℕ) (total : Result Run JuteFail) → RunsOn run (front at rest) total → length rest ≡ 0 → total ≡ Ok run
run_ends run at [] total on none = sym on.so_far ∙ ap (with_run run) (run_none on.fuel at) ∙ ap Ok (then_none run)
run_ends run at (b ∷ bytes) total on none = absurd (omega (arith, none))

-- ---- one batch

-- the batch whose length stands at a place
pub record IsBatch (bytes : List ℕ) (at end : ℕ) : Type 0 where
  pub is : end ≡ at + (4 + body_len (drop at bytes))
  pub fits : 4 + body_len (drop at bytes) ≤ length (drop at bytes)
  pub run_is : batch_run at (drop at bytes) ≡ run_at (at + 4) (drop (at + 4) (take end bytes))

pub short_batch : (at : ℕ) (rest : List ℕ) → None ≡ batch_end at rest → batch_run at rest ≡ Err (jute.Short at)
short_batch at rest none = by_test (nat_lt (length rest) (4 + body_len rest)) refl none
  where
    by_test : (b : Bool) → b ≡ nat_lt (length rest) (4 + body_len rest) → None ≡ cond b None (Some (at + (4 + body_len rest))) → batch_run at rest ≡ Err (jute.Short at)
    by_test true is e = ap (λ (b : Bool). cond b (Err (jute.Short at)) (run_at (at + 4) (take (body_len rest) (drop 4 rest)))) (sym is)
    by_test false is e = absurd (cc e)

pub whole_batch : (bytes : List ℕ) (at end : ℕ) → Some end ≡ batch_end at (drop at bytes) → IsBatch bytes at end
whole_batch bytes at end some = by_test (nat_lt (length rest) (4 + n)) refl some
  where
    rest : List ℕ
    rest = drop at bytes

    n : ℕ
    n = body_len rest

    by_test : (b : Bool) → b ≡ nat_lt (length rest) (4 + n) → Some end ≡ cond b None (Some (at + (4 + n))) → IsBatch bytes at end
    by_test true is e = absurd (cc e)
    by_test false is e =
        let end_is : end ≡ at + (4 + n) = cc e in
        let test : nat_lt (length rest) (4 + n) ≡ false = sym is in
        let sum : end ≡ at + 4 + n = omega (arith, end_is) in
        let part : take n (drop 4 rest) ≡ drop (at + 4) (take end bytes) =
        ap (take n) (drop-drop 4 at bytes) ∙ sym (drop-take (at + 4) n bytes) ∙ ap (λ (k : ℕ). drop (at + 4) (take k bytes)) (sym sum) in
        record {
          is = end_is;
          fits = grind (arith, nat_tests);
          run_is = ap (λ (b : Bool). cond b (Err (jute.Short at)) (run_at (at + 4) (take n (drop 4 rest)))) test ∙ ap (run_at (at + 4)) part;
        }
