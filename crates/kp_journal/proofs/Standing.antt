-- What the bytes of a journal stand for, before, while and after a batch is added.
use Rattle.std.proofs.Common.{◌≡◌, inl, inr, ℕ, zero, suc, ◌+◌, ◌^◌, ◌≤◌, ◌<◌, Bool, true, false, cond, List, [], ◌∷◌, ◌++◌, length, get_or, take, drop, take-append-drop, append_assoc, Option, Some, None, Result, Ok, Err, refl, sym, ◌∙◌, ap, subst, arith, length-append}
use Rattle.std.specs.Prelude.{nat_le, nat_eq, ◌&&◌, IfSome}
use Rattle.std.specs.Option.{option_map}
use Rattle.std.specs.Int.{w32, to_be_bytes}
use Rattle.std.proofs.lemmas.Bool.{cases_eq}
use Rattle.std.proofs.lemmas.Bool.Decides.{nat_tests}
use Rattle.std.proofs.lemmas.List.{take_at, drop_at, take-take, length-take}
use Rattle.std.proofs.lemmas.Nat.{from_be_bytes-to_be_bytes_4}
use Rattle.kp_io.specs.Crash.{HasFront}
use Rattle.kp_jute.specs.declared.fault.JuteFail.{JuteFail}
use Rattle.kp_entry.specs.declared.record.Record.{Record}
use Rattle.kp_entry.specs.Records.{spelled, has_base, IsRun}
use Rattle.kp_journal.specs.declared.fail.JournalFail.{JournalFail}
use Rattle.kp_journal.specs.declared.fail.JournalFail.TheVariants as fail
use Rattle.kp_journal.specs.declared.head.Head.{Head}
use Rattle.kp_journal.specs.Frames.{Run, then_run, Framed, shut_at, behind, frames}
use Rattle.kp_journal.specs.Answers.{with_framed}
use Rattle.kp_journal.specs.Gates.{staged, opened, appended, Appended}
use Rattle.kp_journal.specs.Heads.{is_open, head_in, head_fault}
use Rattle.kp_journal.specs.Journals.{Journaled, behind_head, with_head, written, journal_of, run_of, with_batch, IsWithOrWithout, StandsFor}
use Rattle.kp_journal.proofs.Bodies.{spelled_again}
use Rattle.kp_journal.proofs.Framing.{test_eq, test_other, then_none, batch_step, closed, opened_gate, enough, Split, split}

fail_ok : {A : Type 0} (P : Type 0) (e : JournalFail) (x : A) → Err e ≡ Ok x → P
fail_ok P e x is = absurd cc

abbrev stood : Journaled → Result Journaled JournalFail
stood v = Ok v

journal_is : (f g : Journaled) → stood f ≡ stood g → f ≡ g
journal_is f g e = cc

-- ---- the parts of a journal

-- a journal's bytes: its head, its batches, the gate that is not open, and what stands behind it
pub record Parts (node : ℕ) (xs : List ℕ) (v : Journaled) : Type 0 where
  pub head : List ℕ
  pub pre : List ℕ
  pub gate : ℕ
  pub junk : List ℕ
  pub size : length head ≡ 22
  pub head_is : head_in head ≡ v.head
  pub whole : xs ≡ (head ++ pre) ++ gate ∷ junk
  pub place : length (head ++ pre) ≡ v.gate
  pub shut : gate ≡ 1 → ⊥
  pub again : (j : ℕ) (tail : List ℕ) (r : Framed) → frames j v.gate tail ≡ Ok r → written node ((head ++ pre) ++ tail) ≡ Ok (record { head = v.head; run = then_run v.run r.run; gate = r.gate })

-- a head without a fault, and what is framed behind it
framed_in : (fault : Option ℕ) (h : Head) (r : Result Framed JuteFail) (v : Journaled) → with_head fault h r ≡ Ok v → (f : Framed) × (fault ≡ None) × (r ≡ Ok f) × (v ≡ record { head = h; run = f.run; gate = f.gate })
framed_in None h (Ok f) v e = (f, refl, refl, sym (journal_is _ v e))
framed_in None h (Err e') v e = fail_ok _ _ v e
framed_in (Some at) h r v e = fail_ok _ _ v e

-- a head of 22 bytes and what is framed behind it
pub joined : (node : ℕ) (head rest : List ℕ) (f : Framed) → length head ≡ 22 → head_fault node head ≡ None → frames (length rest) 22 rest ≡ Ok f
    → written node (head ++ rest) ≡ Ok (record { head = head_in head; run = f.run; gate = f.gate })
unfolding written
joined node head rest f size fine e =
    let front : take 22 (head ++ rest) ≡ head = take_at head rest 22 size in
    let back : drop 22 (head ++ rest) ≡ rest = drop_at head rest 22 size in
    let inside : frames (length (head ++ rest)) 22 rest ≡ Ok f = enough (length rest) (length (head ++ rest)) 22 rest f e (omega (arith, length-append head rest)) in
    ap (λ (l : List ℕ). with_head (head_fault node l) (head_in l) (frames (length (head ++ rest)) 22 (drop 22 (head ++ rest)))) front
    ∙ ap (λ (l : List ℕ). with_head (head_fault node head) (head_in head) (frames (length (head ++ rest)) 22 l)) back
    ∙ ap (λ (o : Option ℕ). with_head o (head_in head) (frames (length (head ++ rest)) 22 rest)) fine
    ∙ ap (behind_head (head_in head)) inside

pub parts : (node : ℕ) (xs : List ℕ) (v : Journaled) → 22 ≤ length xs → written node xs ≡ Ok v → Parts node xs v
unfolding written
parts node xs v long e =
    let m = framed_in (head_fault node (take 22 xs)) (head_in (take 22 xs)) (frames (length xs) 22 (drop 22 xs)) v e in
    subst (Parts node xs) (sym m.3) (of_split m.0 m.1 (split (length xs) 22 (drop 22 xs) m.0 m.2) (omega (arith, length-take 22 xs, long)))
  where
    of_split : (f : Framed) → head_fault node (take 22 xs) ≡ None → Split 22 (drop 22 xs) f → length (take 22 xs) ≡ 22 → Parts node xs (record { head = head_in (take 22 xs); run = f.run; gate = f.gate })
    of_split f fine s size = record {
      head = take 22 xs;
      pre = s.pre;
      gate = s.gate;
      junk = s.junk;
      size = size;
      head_is = refl;
      whole = sym (take-append-drop 22 xs) ∙ ap (λ (l : List ℕ). take 22 xs ++ l) s.whole ∙ sym (append_assoc (take 22 xs) s.pre (s.gate ∷ s.junk));
      place = omega (arith, length-append (take 22 xs) s.pre, size, s.size);
      shut = s.shut;
      again = λ j tail r e'. ap (written node) (append_assoc (take 22 xs) s.pre tail) ∙ joined node (take 22 xs) (s.pre ++ tail) (behind f.run r) size fine (s.again j tail r e');
    }

pub gate_behind : (node : ℕ) (xs : List ℕ) (v : Journaled) → Parts node xs v → (22 ≤ v.gate) × (v.gate < length xs)
gate_behind node xs v p =
    (omega (arith, length-append p.head p.pre, p.size, p.place), omega (arith, ap length p.whole, length-append (p.head ++ p.pre) (p.gate ∷ p.junk), p.place))

-- ---- what stands behind the gate that is not open

-- the bytes up to a journal's gate, and other bytes behind them
up_to_gate : (node : ℕ) (xs : List ℕ) (v : Journaled) (p : Parts node xs v) → take (v.gate + 1) xs ≡ (p.head ++ p.pre) ++ p.gate ∷ []
up_to_gate node xs v p =
    ap (take (v.gate + 1)) (p.whole ∙ sym (append_assoc (p.head ++ p.pre) (p.gate ∷ []) p.junk))
    ∙ take_at ((p.head ++ p.pre) ++ p.gate ∷ []) p.junk (v.gate + 1) (omega (arith, length-append (p.head ++ p.pre) (p.gate ∷ []), p.place))

-- whatever stands there
pub written_kept : (node : ℕ) (xs c : List ℕ) (v : Journaled) → 22 ≤ length xs → written node xs ≡ Ok v → HasFront (v.gate + 1) xs c → written node c ≡ Ok v
written_kept node xs c v long e front =
    let p = parts node xs v long e in
    let whole : c ≡ (p.head ++ p.pre) ++ p.gate ∷ drop (v.gate + 1) c =
    sym (take-append-drop (v.gate + 1) c) ∙ ap (λ (l : List ℕ). l ++ drop (v.gate + 1) c) (front ∙ up_to_gate node xs v p) ∙ append_assoc (p.head ++ p.pre) (p.gate ∷ []) (drop (v.gate + 1) c) in
    ap (written node) whole
    ∙ p.again 1 (p.gate ∷ drop (v.gate + 1) c) (shut_at v.gate) (closed 0 v.gate p.gate (drop (v.gate + 1) c) p.shut)
    ∙ ap (λ (r : Run). Ok (record { head = v.head; run = r; gate = v.gate })) (then_none v.run)

-- the bytes behind a staged batch's gate
staged_parts : (node : ℕ) (xs body : List ℕ) (v : Journaled) (p : Parts node xs v) → (tail : List ℕ) × (take v.gate (staged v.gate body xs) ≡ p.head ++ p.pre)
    × (drop (v.gate + 1) (staged v.gate body xs) ≡ to_be_bytes w32 (length body) ++ (body ++ 0 ∷ tail))
unfolding staged
staged_parts node xs body v p =
    let e = v.gate in
    let tail = drop (e + 6 + length body) xs in
    let rest = to_be_bytes w32 (length body) ++ (body ++ 0 ∷ tail) in
    let long : length ((p.head ++ p.pre) ++ p.gate ∷ []) ≡ e + 1 = omega (arith, length-append (p.head ++ p.pre) (p.gate ∷ []), p.place) in
    let whole : take (e + 1) xs ++ rest ≡ ((p.head ++ p.pre) ++ p.gate ∷ []) ++ rest = ap (λ (l : List ℕ). l ++ rest) (up_to_gate node xs v p) in (
      tail,
      ap (take e) (whole ∙ append_assoc (p.head ++ p.pre) (p.gate ∷ []) rest) ∙ take_at (p.head ++ p.pre) (p.gate ∷ rest) e p.place,
      ap (drop (e + 1)) whole ∙ drop_at ((p.head ++ p.pre) ++ p.gate ∷ []) rest (e + 1) long,
    )

-- what a batch frames alone
one_batch : (gate x : ℕ) (rs : List Record) (tail : List ℕ) → IsRun rs → has_base rs ≡ false → length (spelled rs) < 2 ^ 32 → x ≡ 1
    → frames 2 gate (x ∷ (to_be_bytes w32 (length (spelled rs)) ++ (spelled rs ++ 0 ∷ tail))) ≡ Ok (record { run = run_of (gate + 5) rs; gate = gate + 5 + length (spelled rs) })
one_batch gate x rs tail run based short is =
    let body = spelled rs in
    let bytes = to_be_bytes w32 (length body) in
    let end = gate + 1 + (4 + length body) in
    let five : gate + 1 + 4 ≡ gate + 5 = omega arith in
    let all : end ≡ gate + 5 + length body = omega arith in
    let shut : frames 1 end (0 ∷ tail) ≡ Ok (shut_at end) = closed 0 end 0 tail (λ bad. absurd (omega (arith, bad))) in
    opened_gate 1 gate x (bytes ++ (body ++ 0 ∷ tail)) is
    ∙ batch_step (frames 1) (gate + 1) bytes body (0 ∷ tail) (run_of (gate + 1 + 4) rs) refl (from_be_bytes-to_be_bytes_4 (length body) short) (spelled_again (gate + 1 + 4) rs run based)
    ∙ ap (with_framed (run_of (gate + 1 + 4) rs)) shut
    ∙ ap (λ (r : Run). Ok (record { run = r; gate = end })) (then_none (run_of (gate + 1 + 4) rs))
    ∙ ap (λ (k : ℕ). Ok (record { run = run_of k rs; gate = end })) five
    ∙ ap (λ (k : ℕ). Ok (record { run = run_of (gate + 5) rs; gate = k })) all

-- a batch behind the gate, whatever the gate holds: it counts where the gate is open
pub written_torn : (node : ℕ) (xs c : List ℕ) (v : Journaled) (rs : List Record) → 22 ≤ length xs → written node xs ≡ Ok v → IsRun rs → has_base rs ≡ false → length (spelled rs) < 2 ^ 32 → (x : ℕ)
    → c ≡ take v.gate (staged v.gate (spelled rs) xs) ++ x ∷ drop (v.gate + 1) (staged v.gate (spelled rs) xs)
    → written node c ≡ cond (nat_eq x 1) (Ok (with_batch rs v)) (Ok v)
written_torn node xs c v rs long e run based short x is =
    let p = parts node xs v long e in
    let body = spelled rs in
    let t = staged_parts node xs body v p in
    let bytes = to_be_bytes w32 (length body) in
    let whole : c ≡ (p.head ++ p.pre) ++ x ∷ (bytes ++ (body ++ 0 ∷ t.0)) =
    is ∙ ap (λ (l : List ℕ). l ++ x ∷ drop (v.gate + 1) (staged v.gate body xs)) t.1 ∙ ap (λ (l : List ℕ). (p.head ++ p.pre) ++ x ∷ l) t.2 in
    elim (cases_eq x 1) [
      | inl opens_it ↦
          ap (written node) whole
          ∙ p.again 2 (x ∷ (bytes ++ (body ++ 0 ∷ t.0))) (record { run = run_of (v.gate + 5) rs; gate = v.gate + 5 + length body }) (one_batch v.gate x rs t.0 run based short opens_it)
          ∙ sym (ap (λ (b : Bool). cond b (Ok (with_batch rs v)) (Ok v)) (test_eq x 1 opens_it))
      | inr unlike ↦
          ap (written node) whole
          ∙ p.again 1 (x ∷ (bytes ++ (body ++ 0 ∷ t.0))) (shut_at v.gate) (closed 0 v.gate x (bytes ++ (body ++ 0 ∷ t.0)) unlike)
          ∙ ap (λ (r : Run). Ok (record { head = v.head; run = r; gate = v.gate })) (then_none v.run)
          ∙ sym (ap (λ (b : Bool). cond b (Ok (with_batch rs v)) (Ok v)) (test_other x 1 unlike))
    ]

-- ---- open heads

is_long : (xs : List ℕ) → is_open xs ≡ true → 23 ≤ length xs
is_long xs e = long_of (nat_le 23 (length xs)) (nat_eq (get_or xs 0 0) 1) refl e
  where
    long_of : (b g : Bool) → b ≡ nat_le 23 (length xs) → (b && g) ≡ true → 23 ≤ length xs
    long_of true g is both = let test : nat_le 23 (length xs) ≡ true = sym is in grind (arith, nat_tests)
    long_of false g is both = absurd (cc both)

-- the first byte of a front
pub front_byte : (k : ℕ) (l : List ℕ) → 0 < k → get_or (take k l) 0 0 ≡ get_or l 0 0
front_byte zero l lt = absurd (omega (arith, lt))
front_byte (suc k) [] lt = refl
front_byte (suc k) (x ∷ l) lt = refl

-- the front of an open journal, its gate among it, opens each journal that has it
pub open_kept : (k : ℕ) (xs c : List ℕ) → 22 ≤ k → k < length c → take k c ≡ take k xs → is_open xs ≡ true → is_open c ≡ true
open_kept k xs c le lt same e =
    let long : nat_le 23 (length c) ≡ true = let n : 23 ≤ length c = omega (arith, le, lt) in grind (arith, nat_tests) in
    let first : get_or c 0 0 ≡ get_or xs 0 0 = sym (front_byte k c (omega (arith, le))) ∙ ap (λ (l : List ℕ). get_or l 0 0) same ∙ front_byte k xs (omega (arith, le)) in
    ap (λ (b : Bool). b && nat_eq (get_or c 0 0) 1) long ∙ ap (λ (n : ℕ). nat_eq n 1) first ∙ open_byte (nat_le 23 (length xs)) (nat_eq (get_or xs 0 0) 1) e
  where
    open_byte : (a b : Bool) → (a && b) ≡ true → b ≡ true
    open_byte true b e = e
    open_byte false b e = absurd (cc e)

pub as_written : (node : ℕ) (xs : List ℕ) → is_open xs ≡ true → journal_of node xs ≡ written node xs
as_written node xs e = ap (λ (b : Bool). cond b (written node xs) (Err fail.Closed)) e

pub in_journal : (node : ℕ) (xs : List ℕ) (v : Journaled) → journal_of node xs ≡ Ok v → (is_open xs ≡ true) × (written node xs ≡ Ok v)
in_journal node xs v e = by_open (is_open xs) refl e
  where
    by_open : (b : Bool) → b ≡ is_open xs → cond b (written node xs) (Err fail.Closed) ≡ Ok v → (is_open xs ≡ true) × (written node xs ≡ Ok v)
    by_open true is e = (sym is, e)
    by_open false is e = fail_ok _ _ v e

-- ---- what a crash leaves while a batch is added

-- whatever stands behind the gate that is not open
journal_kept : (node : ℕ) (xs c : List ℕ) (v : Journaled) → journal_of node xs ≡ Ok v → HasFront (v.gate + 1) xs c → journal_of node c ≡ Ok v
journal_kept node xs c v e front =
    let j = in_journal node xs v e in
    let long : 22 ≤ length xs = omega (arith, is_long xs j.0) in
    let g = gate_behind node xs v (parts node xs v long j.1) in
    let c_long : v.gate < length c = omega (arith, ap length front, length-take (v.gate + 1) c, length-take (v.gate + 1) xs, g.1) in
    let same : take v.gate c ≡ take v.gate xs = sym (shorter v.gate c) ∙ ap (take v.gate) front ∙ shorter v.gate xs in
    as_written node c (open_kept v.gate xs c g.0 c_long same j.0) ∙ written_kept node xs c v long j.1 front
  where
    shorter : (k : ℕ) (l : List ℕ) → take k (take (k + 1) l) ≡ take k l
    shorter k l = take-take k (k + 1) l (omega arith)

-- a batch behind the gate, whatever the gate holds: it counts where the gate is open
gate_torn : (node : ℕ) (xs c : List ℕ) (v : Journaled) (rs : List Record) → journal_of node xs ≡ Ok v → IsRun rs → has_base rs ≡ false → length (spelled rs) < 2 ^ 32 → (x : ℕ)
    → c ≡ take v.gate (staged v.gate (spelled rs) xs) ++ x ∷ drop (v.gate + 1) (staged v.gate (spelled rs) xs)
    → journal_of node c ≡ cond (nat_eq x 1) (Ok (with_batch rs v)) (Ok v)
gate_torn node xs c v rs e run based short x is =
    let j = in_journal node xs v e in
    let long : 22 ≤ length xs = omega (arith, is_long xs j.0) in
    let p = parts node xs v long j.1 in
    let g = gate_behind node xs v p in
    let t = staged_parts node xs (spelled rs) v p in
    let front : take v.gate (staged v.gate (spelled rs) xs) ≡ take v.gate xs =
    t.1 ∙ sym (ap (take v.gate) p.whole ∙ take_at (p.head ++ p.pre) (p.gate ∷ p.junk) v.gate p.place) in
    let same : take v.gate c ≡ take v.gate xs =
    ap (take v.gate) (is ∙ ap (λ (l : List ℕ). l ++ x ∷ drop (v.gate + 1) (staged v.gate (spelled rs) xs)) t.1)
    ∙ take_at (p.head ++ p.pre) (x ∷ drop (v.gate + 1) (staged v.gate (spelled rs) xs)) v.gate p.place ∙ sym t.1 ∙ front in
    let c_long : v.gate < length c =
    omega (arith, ap length (is ∙ ap (λ (l : List ℕ). l ++ x ∷ drop (v.gate + 1) (staged v.gate (spelled rs) xs)) t.1), length-append (p.head ++ p.pre) (x ∷ drop (v.gate + 1) (staged v.gate (spelled rs) xs)), p.place) in
    as_written node c (open_kept v.gate xs c g.0 c_long same j.0) ∙ written_torn node xs c v rs long j.1 run based short x is

by_gate : (node x : ℕ) (c : List ℕ) (rs : List Record) (v : Journaled) → journal_of node c ≡ cond (nat_eq x 1) (Ok (with_batch rs v)) (Ok v) → IsWithOrWithout node v rs c
by_gate node x c rs v e = by_test (nat_eq x 1) e
  where
    by_test : (b : Bool) → journal_of node c ≡ cond b (Ok (with_batch rs v)) (Ok v) → IsWithOrWithout node v rs c
    by_test true e = inr e
    by_test false e = inl e

append_left : (node : ℕ) (xs c : List ℕ) (v : Journaled) (rs : List Record) → journal_of node xs ≡ Ok v → IsRun rs → has_base rs ≡ false → length (spelled rs) < 2 ^ 32 → Appended v.gate (spelled rs) xs c
    → IsWithOrWithout node v rs c
append_left node xs c v rs e run based short (inl front) = inl (journal_kept node xs c v e front)
append_left node xs c v rs e run based short (inr but) = by_gate node but.0 c rs v (gate_torn node xs c v rs e run based short but.0 but.1)

pub append_done : (node : ℕ) (xs : List ℕ) (v : Journaled) (rs : List Record) → journal_of node xs ≡ Ok v → IsRun rs → has_base rs ≡ false → length (spelled rs) < 2 ^ 32
    → journal_of node (appended v.gate (spelled rs) xs) ≡ Ok (with_batch rs v)
unfolding opened
append_done node xs v rs e run based short = gate_torn node xs (opened v.gate (staged v.gate (spelled rs) xs)) v rs e run based short 1 refl

pub gate_there : (node : ℕ) (xs : List ℕ) (v : Journaled) → journal_of node xs ≡ Ok v → v.gate < length xs
gate_there node xs v e =
    let j = in_journal node xs v e in
    (gate_behind node xs v (parts node xs v (omega (arith, is_long xs j.0)) j.1)).1

-- ---- answers of the journal

pub left_at : (node gate : ℕ) (xs c body : List ℕ) (v : Journaled) (rs : List Record) → journal_of node xs ≡ Ok v → v.gate ≡ gate → body ≡ spelled rs → IsRun rs → has_base rs ≡ false → length body < 2 ^ 32 → Appended gate body xs c
    → IsWithOrWithout node v rs c
left_at node gate xs c body v rs e is text run based short left =
    append_left node xs c v rs e run based (subst (λ (l : List ℕ). length l < 2 ^ 32) text short) (subst (λ (l : List ℕ). Appended v.gate l xs c) text (subst (λ (k : ℕ). Appended k body xs c) (sym is) left))

pub gate_in : (j : Journaled) (gate : ℕ) (o : Option (List ℕ)) → gate ≡ j.gate → IfSome o (StandsFor j) → IfSome o (λ xs. gate < length xs)
gate_in j gate None is stands = tt
gate_in j gate (Some xs) is stands = subst (λ (k : ℕ). k < length xs) (stands.2 ∙ sym is) (gate_there j.head.node xs stands.0 stands.1)

pub done_at : (node gate : ℕ) (xs body : List ℕ) (v : Journaled) (rs : List Record) (old new : Option (List ℕ)) → old ≡ Some xs → journal_of node xs ≡ Ok v → v.gate ≡ gate → body ≡ spelled rs → IsRun rs → has_base rs ≡ false → length body < 2 ^ 32
    → new ≡ option_map (appended gate body) old → IfSome new (λ ys. journal_of node ys ≡ Ok (with_batch rs v))
done_at node gate xs body v rs old new held e is text run based short was =
    subst (λ (q : Option (List ℕ)). IfSome q (λ ys. journal_of node ys ≡ Ok (with_batch rs v))) (sym (was ∙ ap (option_map (appended gate body)) held))
    (subst (λ (l : List ℕ). journal_of node (appended gate l xs) ≡ Ok (with_batch rs v)) (sym text)
    (subst (λ (k : ℕ). journal_of node (appended k (spelled rs) xs) ≡ Ok (with_batch rs v)) is (append_done node xs v rs e run based (subst (λ (l : List ℕ). length l < 2 ^ 32) text short))))
