-- A journal's batches stand for the same whatever stands behind the first gate that is not open, and a batch may be added there.
use Rattle.std.proofs.Common.{◌≡◌, inl, inr, ℕ, zero, suc, ◌+◌, ◌≤◌, ◌<◌, Bool, true, false, cond, List, [], ◌∷◌, ◌++◌, length, take, drop, take-append-drop, append_assoc, append-nil, Result, Ok, Err, refl, sym, ◌∙◌, ap, arith, length-append, length-drop}
use Rattle.std.specs.Prelude.{nat_lt, nat_eq}
use Rattle.std.specs.Int.{w32, from_be_bytes}
use Rattle.std.proofs.lemmas.Bool.{cases_eq, cases_lt}
use Rattle.std.proofs.lemmas.Bool.Decides.{nat_tests}
use Rattle.std.proofs.lemmas.List.{take_at, drop_at, drop-drop, length-take}
use Rattle.kp_jute.specs.declared.fault.JuteFail.{JuteFail}
use Rattle.kp_jute.specs.declared.fault.JuteFail.TheVariants.{Short}
use Rattle.kp_jute.specs.Form.{◌>>=◌}
use Rattle.kp_jute.proofs.Combined.{bind_ok, ok_is}
use Rattle.kp_journal.specs.Frames.{Run, no_run, then_run, Framed, shut_at, behind, body_len, batch_by, run_at, frames}
use Rattle.kp_journal.specs.Answers.{with_framed}

err_ok : {A : Type 0} (P : Type 0) (e : JuteFail) (x : A) → Err e ≡ Ok x → P
err_ok P e x is = absurd cc

pub test_eq : (g n : ℕ) → g ≡ n → nat_eq g n ≡ true
test_eq g n is = grind (arith, nat_tests)

pub test_other : (g n : ℕ) → (g ≡ n → ⊥) → nat_eq g n ≡ false
test_other g n unlike = grind (arith, nat_tests)

pub test_long : (a b : ℕ) → b ≤ a → nat_lt a b ≡ false
test_long a b le = grind (arith, nat_tests)

test_short : (a b : ℕ) → a < b → nat_lt a b ≡ true
test_short a b lt = grind (arith, nat_tests)

-- ---- runs, one behind the other

pub run_then : (a b c : Run) → then_run (then_run a b) c ≡ then_run a (then_run b c)
run_then a b c =
    let rs : (a.records ++ b.records) ++ c.records ≡ a.records ++ (b.records ++ c.records) = append_assoc a.records b.records c.records in
    let ps : (a.places ++ b.places) ++ c.places ≡ a.places ++ (b.places ++ c.places) = append_assoc a.places b.places c.places in
    λ i. record { records = rs i; places = ps i }

pub then_none : (a : Run) → then_run a no_run ≡ a
then_none a =
    let rs : a.records ++ [] ≡ a.records = append-nil a.records in
    let ps : a.places ++ [] ≡ a.places = append-nil a.places in
    λ i. record { records = rs i; places = ps i }

-- ---- one batch

-- a batch and what stands behind it
pub batch_step : (more : ℕ → List ℕ → Result Framed JuteFail) (at : ℕ) (len body tail : List ℕ) (run : Run) → length len ≡ 4 → from_be_bytes w32 len ≡ length body → run_at (at + 4) body ≡ Ok run
    → batch_by more at (len ++ (body ++ tail)) ≡ with_framed run (more (at + (4 + length body)) tail)
batch_step more at len body tail run four says reads =
    let rest = len ++ (body ++ tail) in
    let field : take 4 rest ≡ len = take_at len (body ++ tail) 4 four in
    let n_is : body_len rest ≡ length body = ap (from_be_bytes w32) field ∙ says in
    let back : drop 4 rest ≡ body ++ tail = drop_at len (body ++ tail) 4 four in
    let taken : take (length body) (drop 4 rest) ≡ body = ap (take (length body)) back ∙ take_at body tail (length body) refl in
    let left : drop (4 + length body) rest ≡ tail = sym (drop-drop (length body) 4 rest) ∙ ap (drop (length body)) back ∙ drop_at body tail (length body) refl in
    let long : nat_lt (length rest) (4 + length body) ≡ false = test_long _ _ (omega (arith, length-append len (body ++ tail), length-append body tail, four)) in
    ap (λ (n : ℕ). cond (nat_lt (length rest) (4 + n)) (Err (Short at)) (run_at (at + 4) (take n (drop 4 rest)) >>= λ (r : Run). with_framed r (more (at + (4 + n)) (drop (4 + n) rest)))) n_is
    ∙ ap (λ (b : Bool). cond b (Err (Short at)) (run_at (at + 4) (take (length body) (drop 4 rest)) >>= λ (r : Run). with_framed r (more (at + (4 + length body)) (drop (4 + length body) rest)))) long
    ∙ ap (λ (l : List ℕ). run_at (at + 4) l >>= λ (r : Run). with_framed r (more (at + (4 + length body)) (drop (4 + length body) rest))) taken
    ∙ ap (λ (l : List ℕ). run_at (at + 4) body >>= λ (r : Run). with_framed r (more (at + (4 + length body)) l)) left
    ∙ ap (λ (m : Result Run JuteFail). m >>= λ (r : Run). with_framed r (more (at + (4 + length body)) tail)) reads

-- what stands behind an open gate
record Opened (more : ℕ → List ℕ → Result Framed JuteFail) (at : ℕ) (rest : List ℕ) (f : Framed) : Type 0 where
  len : List ℕ
  body : List ℕ
  tail : List ℕ
  parts : rest ≡ len ++ (body ++ tail)
  four : length len ≡ 4
  says : from_be_bytes w32 len ≡ length body
  run : Run
  reads : run_at (at + 4) body ≡ Ok run
  inner : Framed
  inside : more (at + (4 + length body)) tail ≡ Ok inner
  is : f ≡ behind run inner

opens : (more : ℕ → List ℕ → Result Framed JuteFail) (at : ℕ) (rest : List ℕ) (f : Framed) → batch_by more at rest ≡ Ok f → Opened more at rest f
opens more at rest f e = elim (cases_lt (length rest) (4 + n)) [
  | inl short ↦ err_ok _ (Short at) f (sym (ap (λ (b : Bool). cond b (Err (Short at)) whole) (test_short (length rest) (4 + n) short)) ∙ e)
  | inr long ↦ of_whole long (sym (ap (λ (b : Bool). cond b (Err (Short at)) whole) (test_long (length rest) (4 + n) long)) ∙ e)
]
  where
    n : ℕ
    n = body_len rest

    body : List ℕ
    body = take n (drop 4 rest)

    whole : Result Framed JuteFail
    whole = run_at (at + 4) body >>= λ (r : Run). with_framed r (more (at + (4 + n)) (drop (4 + n) rest))

    size : 4 + n ≤ length rest → length body ≡ n
    size long = omega (arith, length-take n (drop 4 rest), length-drop 4 rest, long)

    of_whole : 4 + n ≤ length rest → whole ≡ Ok f → Opened more at rest f
    of_whole long e1 =
        let a = bind_ok (run_at (at + 4) body) (λ (r : Run). with_framed r (more (at + (4 + n)) (drop (4 + n) rest))) f e1 in
        let b = bind_ok (more (at + (4 + n)) (drop (4 + n) rest)) (λ (g : Framed). Ok (behind a.0 g)) f a.2 in
        record {
          len = take 4 rest;
          body = body;
          tail = drop (4 + n) rest;
          parts = sym (take-append-drop 4 rest) ∙ ap (λ (l : List ℕ). take 4 rest ++ l) (sym (take-append-drop n (drop 4 rest)) ∙ ap (λ (l : List ℕ). body ++ l) (drop-drop n 4 rest));
          four = omega (arith, length-take 4 rest, long);
          says = sym (size long);
          run = a.0;
          reads = a.1;
          inner = b.0;
          inside = ap (λ (k : ℕ). more (at + (4 + k)) (drop (4 + n) rest)) (size long) ∙ b.1;
          is = sym (ok_is (behind a.0 b.0) f b.2);
        }

-- ---- batches

-- a closed gate
pub closed : (k at g : ℕ) (rest : List ℕ) → (g ≡ 1 → ⊥) → frames (suc k) at (g ∷ rest) ≡ Ok (shut_at at)
unfolding frames
closed k at g rest unlike = rw (test_other g 1 unlike) refl

-- an open gate
pub opened_gate : (k at g : ℕ) (rest : List ℕ) → g ≡ 1 → frames (suc k) at (g ∷ rest) ≡ batch_by (frames k) (at + 1) rest
unfolding frames
opened_gate k at g rest is = rw (test_eq g 1 is) refl

pub no_gate : (k at : ℕ) → frames k at [] ≡ Err (Short at)
unfolding frames
no_gate k at = refl

no_number : (at g : ℕ) (rest : List ℕ) → frames zero at (g ∷ rest) ≡ Err (Short at)
unfolding frames
no_number at g rest = refl

shuts : (k at g : ℕ) (rest : List ℕ) (f : Framed) → (g ≡ 1 → ⊥) → frames (suc k) at (g ∷ rest) ≡ Ok f → f ≡ shut_at at
shuts k at g rest f unlike e = ok_is f (shut_at at) (sym e ∙ closed k at g rest unlike)

-- any number that is great enough will do
pub enough : (k j at : ℕ) (xs : List ℕ) (f : Framed) → frames k at xs ≡ Ok f → length xs ≤ j → frames j at xs ≡ Ok f
enough k j at [] f e le = err_ok _ (Short at) f (sym (no_gate k at) ∙ e)
enough zero j at (g ∷ rest) f e le = err_ok _ (Short at) f (sym (no_number at g rest) ∙ e)
enough (suc k) zero at (g ∷ rest) f e le = absurd (omega (arith, le))
enough (suc k) (suc j) at (g ∷ rest) f e le = elim (cases_eq g 1) [
  | inl is ↦
      let o = opens (frames k) (at + 1) rest f (sym (opened_gate k at g rest is) ∙ e) in
      let shorter : length o.tail ≤ j = omega (arith, le, ap length o.parts, length-append o.len (o.body ++ o.tail), length-append o.body o.tail) in
      let inside = enough k j (at + 1 + (4 + length o.body)) o.tail o.inner o.inside shorter in
      opened_gate j at g rest is ∙ ap (batch_by (frames j) (at + 1)) o.parts ∙ batch_step (frames j) (at + 1) o.len o.body o.tail o.run o.four o.says o.reads ∙ ap (with_framed o.run) inside ∙ ap Ok (sym o.is)
  | inr unlike ↦ closed j at g rest unlike ∙ ap Ok (sym (shuts k at g rest f unlike e))
]

-- the batches, the gate that is not open, and what stands behind it
pub record Split (at : ℕ) (xs : List ℕ) (f : Framed) : Type 0 where
  pub pre : List ℕ
  pub gate : ℕ
  pub junk : List ℕ
  pub whole : xs ≡ pre ++ gate ∷ junk
  pub size : at + length pre ≡ f.gate
  pub shut : gate ≡ 1 → ⊥
  pub again : (j : ℕ) (tail : List ℕ) (r : Framed) → frames j f.gate tail ≡ Ok r → frames (length (pre ++ tail)) at (pre ++ tail) ≡ Ok (behind f.run r)

pub split : (k at : ℕ) (xs : List ℕ) (f : Framed) → frames k at xs ≡ Ok f → Split at xs f
split k at [] f e = err_ok _ (Short at) f (sym (no_gate k at) ∙ e)
split zero at (g ∷ rest) f e = err_ok _ (Short at) f (sym (no_number at g rest) ∙ e)
split (suc k) at (g ∷ rest) f e = elim (cases_eq g 1) [
  | inl is ↦
      let o = opens (frames k) (at + 1) rest f (sym (opened_gate k at g rest is) ∙ e) in
      let s = split k (at + 1 + (4 + length o.body)) o.tail o.inner o.inside in
      let gate_is : f.gate ≡ o.inner.gate = ap (λ (h : Framed). h.gate) o.is in
      record {
        pre = g ∷ (o.len ++ (o.body ++ s.pre));
        gate = s.gate;
        junk = s.junk;
        whole = ap (λ (l : List ℕ). g ∷ l) (o.parts ∙ ap (λ (l : List ℕ). o.len ++ (o.body ++ l)) s.whole ∙ sym (regroup o.len o.body s.pre (s.gate ∷ s.junk)));
        size = omega (arith, length-append o.len (o.body ++ s.pre), length-append o.body s.pre, o.four, s.size, gate_is);
        shut = s.shut;
        again = λ j tail r e'.
            let inner = s.again j tail r (ap (λ (n : ℕ). frames j n tail) (sym gate_is) ∙ e') in
            let here : frames (suc (length (s.pre ++ tail))) at (g ∷ (o.len ++ (o.body ++ (s.pre ++ tail)))) ≡ Ok (behind f.run r) =
            opened_gate (length (s.pre ++ tail)) at g (o.len ++ (o.body ++ (s.pre ++ tail))) is
            ∙ batch_step (frames (length (s.pre ++ tail))) (at + 1) o.len o.body (s.pre ++ tail) o.run o.four o.says o.reads
            ∙ ap (with_framed o.run) inner
            ∙ ap Ok (joins o.run o.inner f r o.is) in
            let same : g ∷ (o.len ++ (o.body ++ (s.pre ++ tail))) ≡ (g ∷ (o.len ++ (o.body ++ s.pre))) ++ tail = ap (λ (l : List ℕ). g ∷ l) (sym (regroup o.len o.body s.pre tail)) in
            enough (suc (length (s.pre ++ tail))) (length ((g ∷ (o.len ++ (o.body ++ s.pre))) ++ tail)) at ((g ∷ (o.len ++ (o.body ++ s.pre))) ++ tail) (behind f.run r)
            (ap (frames (suc (length (s.pre ++ tail))) at) (sym same) ∙ here) (omega arith);
      }
  | inr unlike ↦
      let f_is = shuts k at g rest f unlike e in
      record {
        pre = [];
        gate = g;
        junk = rest;
        whole = refl;
        size = omega (arith, ap (λ (h : Framed). h.gate) f_is);
        shut = unlike;
        again = λ j tail r e'. enough j (length tail) at tail r (ap (λ (h : Framed). frames j h.gate tail) (sym f_is) ∙ e') (omega arith) ∙ ap Ok (first_is f r f_is);
      }
]
  where
    regroup : (a b c d : List ℕ) → (a ++ (b ++ c)) ++ d ≡ a ++ (b ++ (c ++ d))
    regroup a b c d = append_assoc a (b ++ c) d ∙ ap (λ (l : List ℕ). a ++ l) (append_assoc b c d)

    joins : (run : Run) (inner f r : Framed) → f ≡ behind run inner → behind run (behind inner.run r) ≡ behind f.run r
    joins run inner f r is = ap (λ (q : Run). record { run = q; gate = r.gate }) (sym (run_then run inner.run r.run) ∙ ap (λ (h : Framed). then_run h.run r.run) (sym is))

    first_is : (f r : Framed) → f ≡ shut_at at → r ≡ behind f.run r
    first_is f r is = ap (λ (h : Framed). behind h.run r) (sym is)
