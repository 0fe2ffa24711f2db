-- Batches that are read from a gate on.
use Rattle.std.proofs.Common.{◌≡◌, ℕ, zero, suc, ◌+◌, ◌≤◌, ◌<◌, Bool, true, false, cond, List, [], ◌∷◌, length, take, drop, Result, Ok, Err, refl, sym, ◌∙◌, ap, subst, arith, length-drop}
use Rattle.std.specs.Prelude.{nat_lt, nat_eq}
use Rattle.std.proofs.lemmas.Bool.Decides.{nat_tests}
use Rattle.std.proofs.lemmas.List.{drop-drop}
use Rattle.kp_jute.specs.declared.fault.JuteFail.{JuteFail}
use Rattle.kp_jute.specs.declared.fault.JuteFail.TheVariants.{Short}
use Rattle.kp_jute.specs.Form.{◌>>=◌, Fails}
use Rattle.kp_jute.proofs.Combined.{bind_ok, ok_is}
use Rattle.kp_jute.proofs.Loops.{failed}
use Rattle.kp_journal.specs.Frames.{Run, then_run, with_run, run_at, Framed, body_len, batch_by, frames}
use Rattle.kp_journal.specs.Answers.{ReadsBatch, TellsGate, batch_run, with_framed}
use Rattle.kp_journal.proofs.Framing.{run_then, then_none, closed, opened_gate, no_gate}

-- what is still framed gives what was to be framed
pub record FramesOn (run : Run) (gate : ℕ) (bytes : List ℕ) (total : Result Framed JuteFail) : Type 0 where
  pub fuel : ℕ
  pub enough : length (drop gate bytes) ≤ fuel
  pub so_far : with_framed run (frames fuel gate (drop gate bytes)) ≡ total
  pub inside : gate ≤ length bytes

-- ---- the gate

err_ok : {A : Type 0} (e : JuteFail) (x : A) → Err e ≡ Ok x → ⊥
err_ok e x clash = absurd cc

-- the bytes from a gate on: it is missing, or it stands there
pub record Gate (at : ℕ) (bytes : List ℕ) (lifted : Bool) : Type 0 where
  pub gate : ℕ
  pub here : drop at bytes ≡ gate ∷ drop (at + 1) bytes
  pub is : lifted ≡ nat_eq gate 1
  pub inside : at < length bytes

pub the_gate : (at : ℕ) (bytes : List ℕ) (lifted : Bool) → TellsGate (Ok lifted) at (drop at bytes) → Gate at bytes lifted
the_gate at bytes lifted tells = by_rest (drop at bytes) refl tells
  where
    by_rest : (rest : List ℕ) → drop at bytes ≡ rest → TellsGate (Ok lifted) at rest → Gate at bytes lifted
    by_rest [] is t = absurd (err_ok (Short at) lifted (sym t))
    by_rest (g ∷ rest) is t = record {
      gate = g;
      here = is ∙ ap (λ (l : List ℕ). g ∷ l) (ap (drop 1) (sym is) ∙ drop-drop 1 at bytes);
      is = ok_is lifted (nat_eq g 1) t;
      inside = omega (arith, ap length is, length-drop at bytes);
    }

is_one : (lifted : Bool) (gate : ℕ) → lifted ≡ nat_eq gate 1 → lifted ≡ true → gate ≡ 1
is_one lifted gate is said = let test : nat_eq gate 1 ≡ true = sym is ∙ said in grind (arith, nat_tests)

not_one : (lifted : Bool) (gate : ℕ) → lifted ≡ nat_eq gate 1 → lifted ≡ false → gate ≡ 1 → ⊥
not_one lifted gate is shut same = let test : nat_eq gate 1 ≡ false = sym is ∙ shut in absurd (grind (arith, nat_tests))

-- ---- one batch

batch_is : (more : ℕ → List ℕ → Result Framed JuteFail) (at : ℕ) (rest : List ℕ) → batch_by more at rest ≡ (batch_run at rest >>= λ (r : Run). with_framed r (more (at + (4 + body_len rest)) (drop (4 + body_len rest) rest)))
batch_is more at rest = by_test (nat_lt (length rest) (4 + body_len rest)) (run_at (at + 4) (take (body_len rest) (drop 4 rest))) (λ r. with_framed r (more (at + (4 + body_len rest)) (drop (4 + body_len rest) rest)))
  where
    by_test : (b : Bool) (m : Result Run JuteFail) (f : Run → Result Framed JuteFail) → cond b (Err (Short at)) (m >>= f) ≡ (cond b (Err (Short at)) m >>= f)
    by_test true m f = refl
    by_test false m f = refl

framed_two : (a b : Run) (m : Result Framed JuteFail) → with_framed a (with_framed b m) ≡ with_framed (then_run a b) m
framed_two a b (Ok f) = ap (λ (r : Run). Ok (record { run = r; gate = f.gate })) (sym (run_then a b f.run))
framed_two a b (Err e) = refl

-- what stands from an open gate on
open_frames : (k gate : ℕ) (bytes : List ℕ) → Gate gate bytes true → frames (suc k) gate (drop gate bytes) ≡ batch_by (frames k) (gate + 1) (drop (gate + 1) bytes)
open_frames k gate bytes g = ap (frames (suc k) gate) g.here ∙ opened_gate k gate g.gate (drop (gate + 1) bytes) (is_one true g.gate g.is refl)

-- some fuel is left where a gate stands
some_fuel : (run : Run) (gate : ℕ) (bytes : List ℕ) (total : Result Framed JuteFail) (lifted : Bool) → FramesOn run gate bytes total → Gate gate bytes lifted
    → (k : ℕ) × (length (drop gate bytes) ≤ suc k) × (with_framed run (frames (suc k) gate (drop gate bytes)) ≡ total)
some_fuel run gate bytes total lifted on g = by_fuel on.fuel on.enough on.so_far
  where
    by_fuel : (k : ℕ) → length (drop gate bytes) ≤ k → with_framed run (frames k gate (drop gate bytes)) ≡ total → (j : ℕ) × (length (drop gate bytes) ≤ suc j) × (with_framed run (frames (suc j) gate (drop gate bytes)) ≡ total)
    by_fuel zero le so_far = absurd (omega (arith, le, ap length g.here))
    by_fuel (suc k) le so_far = (k, le, so_far)

pub frames_go_on : (run new : Run) (gate end : ℕ) (bytes : List ℕ) (total : Result Framed JuteFail) → FramesOn run gate bytes total → TellsGate (Ok true) gate (drop gate bytes) → ReadsBatch (Ok end) run (gate + 1) (drop (gate + 1) bytes) new
    → FramesOn new end bytes total
frames_go_on run new gate end bytes total on tells batch =
    let g = the_gate gate bytes true tells in
    let s = some_fuel run gate bytes total true on g in
    let k = s.0 in
    let rest = drop (gate + 1) bytes in
    let n = body_len rest in
    let r = bind_ok (batch_run (gate + 1) rest) (λ (x : Run). Ok (then_run run x)) new batch.2 in
    let end_is : gate + 1 + (4 + n) ≡ end = sym batch.0 in
    let tail : drop (4 + n) rest ≡ drop end bytes = drop-drop (4 + n) (gate + 1) bytes ∙ ap (λ (i : ℕ). drop i bytes) end_is in
    let framed : frames (suc k) gate (drop gate bytes) ≡ with_framed r.0 (frames k end (drop end bytes)) =
    open_frames k gate bytes g ∙ batch_is (frames k) (gate + 1) rest
    ∙ ap (λ (m : Result Run JuteFail). m >>= λ (x : Run). with_framed x (frames k (gate + 1 + (4 + n)) (drop (4 + n) rest))) r.1
    ∙ ap (λ (i : ℕ). with_framed r.0 (frames k i (drop (4 + n) rest))) end_is ∙ ap (λ (l : List ℕ). with_framed r.0 (frames k end l)) tail in
    record {
      fuel = k;
      enough = omega (arith, s.1, batch.0, batch.1, length-drop gate bytes, length-drop end bytes, length-drop (gate + 1) bytes);
      so_far = ap (λ (x : Run). with_framed x (frames k end (drop end bytes))) (sym (ok_is (then_run run r.0) new r.2)) ∙ sym (framed_two run r.0 (frames k end (drop end bytes))) ∙ ap (with_framed run) (sym framed) ∙ s.2;
      inside = omega (arith, batch.0, batch.1, length-drop (gate + 1) bytes, g.inside);
    }

refused_run : (run : Run) (m : Result Run JuteFail) (e : JuteFail) → with_run run m ≡ Err e → m ≡ Err e
refused_run run (Ok x) e is = absurd (err_ok e (then_run run x) (sym is))
refused_run run (Err f) e is = is

pub batch_fails : (run : Run) (gate : ℕ) (bytes : List ℕ) (e : JuteFail) (total : Result Framed JuteFail) → FramesOn run gate bytes total → TellsGate (Ok true) gate (drop gate bytes)
    → Fails e (with_run run (batch_run (gate + 1) (drop (gate + 1) bytes))) → Fails e total
batch_fails run gate bytes e total on tells f =
    let g = the_gate gate bytes true tells in
    let s = some_fuel run gate bytes total true on g in
    let k = s.0 in
    let rest = drop (gate + 1) bytes in
    failed e (with_run run (batch_run (gate + 1) rest)) total (λ e' is.
    sym s.2 ∙ ap (with_framed run) (open_frames k gate bytes g ∙ batch_is (frames k) (gate + 1) rest
    ∙ ap (λ (m : Result Run JuteFail). m >>= λ (x : Run). with_framed x (frames k (gate + 1 + (4 + body_len rest)) (drop (4 + body_len rest) rest))) (refused_run run (batch_run (gate + 1) rest) e' is))) f

-- a gate that is missing
pub gate_fails : (run : Run) (gate : ℕ) (bytes : List ℕ) (e : JuteFail) (total : Result Framed JuteFail) → FramesOn run gate bytes total → TellsGate (Err e) gate (drop gate bytes) → Fails e total
gate_fails run gate bytes e total on tells = by_rest (drop gate bytes) on.so_far tells
  where
    by_rest : (rest : List ℕ) → with_framed run (frames on.fuel gate rest) ≡ total → TellsGate (Err e) gate rest → Fails e total
    by_rest [] so_far t = subst (λ (x : JuteFail). Fails x total) (sym (fail_is e (Short gate) t)) (sym so_far ∙ ap (with_framed run) (no_gate on.fuel gate))
      where
        fail_is : (a b : JuteFail) → ◌≡◌ {A = Result Bool JuteFail} (Err a) (Err b) → a ≡ b
        fail_is a b is = cc is
    by_rest (g ∷ rest) so_far t = absurd (err_ok e (nat_eq g 1) t)

-- a gate that is not lifted
pub frames_end : (run : Run) (gate : ℕ) (bytes : List ℕ) (total : Result Framed JuteFail) → FramesOn run gate bytes total → TellsGate (Ok false) gate (drop gate bytes)
    → (total ≡ Ok (record { run = run; gate = gate })) × (gate < length bytes)
frames_end run gate bytes total on tells =
    let g = the_gate gate bytes false tells in
    let s = some_fuel run gate bytes total false on g in (
      sym s.2 ∙ ap (with_framed run) (ap (frames (suc s.0) gate) g.here ∙ closed s.0 gate g.gate (drop (gate + 1) bytes) (not_one false g.gate g.is refl))
          ∙ ap (λ (r : Run). Ok (record { run = r; gate = gate })) (then_none run),
      g.inside,
    )

-- before anything is read
pub frames_start : (run : Run) (at : ℕ) (bytes : List ℕ) → at ≤ length bytes → FramesOn run at bytes (with_framed run (frames (length bytes) at (drop at bytes)))
frames_start run at bytes le = record { fuel = length bytes; enough = omega (arith, length-drop at bytes); so_far = refl; inside = le }
