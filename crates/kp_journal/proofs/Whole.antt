-- What a whole journal is answered as, and what reading a disk gives.
use Rattle.std.proofs.Common.{◌≡◌, inl, inr, ℕ, ◌+◌, ◌-◌, ◌≤◌, ◌<◌, Bool, true, false, cond, List, ◌++◌, length, get_or, take, drop, Option, Some, None, Result, Ok, Err, refl, sym, ◌∙◌, ap, subst, arith, length-drop, take-add}
use Rattle.std.specs.Prelude.{nat_le, nat_eq, ◌&&◌, ◌⊎◌, ◌==◌, if◌then◌else◌, IfSome, IfOk}
use Rattle.std.proofs.lemmas.Bool.{cases_lt}
use Rattle.std.proofs.lemmas.Bool.Decides.{nat_tests}
use Rattle.std.proofs.Math.Seq.{take-append-add}
use Rattle.std.proofs.lemmas.List.{take-take, take_all, take-append-le, length-take, length-take-le}
use Rattle.kp_io.specs.Disks.{ReadsAt}
use Rattle.kp_jute.specs.declared.fault.JuteFail.{JuteFail}
use Rattle.kp_jute.specs.declared.fault.JuteFail.TheVariants as jute
use Rattle.kp_jute.specs.Form.{Fails}
use Rattle.kp_journal.specs.declared.fail.JournalFail.{JournalFail}
use Rattle.kp_journal.specs.declared.fail.JournalFail.TheVariants as fail
use Rattle.kp_journal.specs.declared.head.Head.{Head}
use Rattle.kp_journal.specs.Frames.{Run, no_run, Framed, frames}
use Rattle.kp_journal.specs.Answers.{Tells, TellsHead, IsOfReading, with_framed}
use Rattle.kp_journal.specs.Heads.{is_open, head_in, head_fault, generation, open_generation}
use Rattle.kp_journal.specs.Journals.{Journaled, fail_of, behind_head, with_head, written, journal_of, StandsFor}
use Rattle.kp_journal.proofs.Standing.{as_written, front_byte}

-- no records stand before the first batch
none_before : (m : Result Framed JuteFail) → with_framed no_run m ≡ m
none_before (Ok f) = refl
none_before (Err e) = refl

-- a head that is refused
pub head_refused : (node : ℕ) (xs : List ℕ) (e : JournalFail) → is_open xs ≡ true → TellsHead (Err e) (head_fault node (take 22 xs)) (head_in (take 22 xs)) → journal_of node xs ≡ Err e
unfolding written
head_refused node xs e opens tells =
    as_written node xs opens ∙ ap (λ (o : Option ℕ). with_head o (head_in (take 22 xs)) (frames (length xs) 22 (drop 22 xs))) tells.1 ∙ ap Err (sym tells.2)

pub head_told : (node : ℕ) (xs : List ℕ) (e : JournalFail) → is_open xs ≡ true → TellsHead (Err e) (head_fault node (take 22 xs)) (head_in (take 22 xs)) → Tells {A = Journaled} (Err e) (journal_of node xs)
head_told node xs e opens tells = subst (λ (f : JournalFail). Tells {A = Journaled} (Err f) (journal_of node xs)) (sym tells.2) (head_refused node xs e opens tells ∙ ap Err tells.2)

-- a head and its batches
pub journal_read : (node : ℕ) (xs : List ℕ) (h : Head) (run : Run) (gate : ℕ) → is_open xs ≡ true → TellsHead (Ok h) (head_fault node (take 22 xs)) (head_in (take 22 xs))
    → with_framed no_run (frames (length xs) 22 (drop 22 xs)) ≡ Ok (record { run = run; gate = gate }) → journal_of node xs ≡ Ok (record { head = h; run = run; gate = gate })
unfolding written
journal_read node xs h run gate opens tells framed =
    as_written node xs opens
    ∙ ap (λ (o : Option ℕ). with_head o (head_in (take 22 xs)) (frames (length xs) 22 (drop 22 xs))) tells.0
    ∙ ap (behind_head (head_in (take 22 xs))) (sym (none_before (frames (length xs) 22 (drop 22 xs))) ∙ framed)
    ∙ ap (λ (x : Head). Ok (record { head = x; run = run; gate = gate })) (sym tells.1)

refused_by : (node : ℕ) (xs : List ℕ) (e : JuteFail) → is_open xs ≡ true → head_fault node (take 22 xs) ≡ None → with_framed no_run (frames (length xs) 22 (drop 22 xs)) ≡ Err e → journal_of node xs ≡ Err (fail_of e)
unfolding written
refused_by node xs e opens fine f =
    as_written node xs opens
    ∙ ap (λ (o : Option ℕ). with_head o (head_in (take 22 xs)) (frames (length xs) 22 (drop 22 xs))) fine
    ∙ ap (behind_head (head_in (take 22 xs))) (sym (none_before (frames (length xs) 22 (drop 22 xs))) ∙ f)

pub batches_told : (node : ℕ) (xs : List ℕ) (h : Head) (e : JuteFail) → is_open xs ≡ true → TellsHead (Ok h) (head_fault node (take 22 xs)) (head_in (take 22 xs))
    → Fails e (with_framed no_run (frames (length xs) 22 (drop 22 xs))) → Tells {A = Journaled} (Err (fail_of e)) (journal_of node xs)
batches_told node xs h jute.NoMemory opens tells f = tt
batches_told node xs h (jute.Short at) opens tells f = refused_by node xs (jute.Short at) opens tells.0 f
batches_told node xs h (jute.BadLength at) opens tells f = refused_by node xs (jute.BadLength at) opens tells.0 f
batches_told node xs h (jute.BadByte at) opens tells f = refused_by node xs (jute.BadByte at) opens tells.0 f

-- the node of a head without a fault
pub node_is : (node : ℕ) (head : List ℕ) → head_fault node head ≡ None → (head_in head).node ≡ node
unfolding head_fault
node_is node head e = by_tests _ _ ((head_in head).node == node) _ 14 13 5 1 refl e
  where
    by_tests : (a b c d : Bool) (p q r s : ℕ) → c ≡ ((head_in head).node == node) → (if a then (if b then (if c then (if d then None else Some p) else Some q) else Some r) else Some s) ≡ None → (head_in head).node ≡ node
    by_tests true true true d p q r s is e = let test : nat_eq (head_in head).node node ≡ true = sym is in grind (arith, nat_tests)
    by_tests true true false d p q r s is e = absurd (cc e)
    by_tests true false c d p q r s is e = absurd (cc e)
    by_tests false b c d p q r s is e = absurd (cc e)

-- ---- reading a disk

-- what was filled so far, and one piece more
pub filled_more : (o o' : Option (List ℕ)) (old piece post : List ℕ) (n count : ℕ) → o' ≡ o → IfSome o (λ xs. (take n old ≡ take n xs) × (n ≤ length xs)) → n ≤ length old → count ≤ length piece → ReadsAt o n count piece
    → IfSome o' (λ xs. (take (n + count) (take n old ++ (piece ++ post)) ≡ take (n + count) xs) × (n + count ≤ length xs))
filled_more None o' old piece post n count same a le inside b = subst (λ (q : Option (List ℕ)). IfSome q (λ xs. (take (n + count) (take n old ++ (piece ++ post)) ≡ take (n + count) xs) × (n + count ≤ length xs))) (sym same) tt
filled_more (Some xs) o' old piece post n count same a le inside b =
    let long : length (take n old) ≡ n = omega (arith, length-take n old, le) in
    let bound : count ≤ length xs - n = omega (arith, inside, ap length b.0, length-take count piece, length-take count (drop n xs), length-drop n xs) in
    subst (λ (q : Option (List ℕ)). IfSome q (λ xs. (take (n + count) (take n old ++ (piece ++ post)) ≡ take (n + count) xs) × (n + count ≤ length xs))) (sym same) (
      two (take n old) (piece ++ post) n count long ∙ ap (λ (l : List ℕ). take n old ++ l) (take-append-le count piece post inside) ∙ ap (λ (l : List ℕ). l ++ take count piece) a.0 ∙ ap (λ (l : List ℕ). take n xs ++ l) b.0 ∙ sym (take-add n count xs),
      omega (arith, bound, a.1),
    )
  where
    two : (l r : List ℕ) (n count : ℕ) → length l ≡ n → take (n + count) (l ++ r) ≡ l ++ take count r
    two l r n count is = ap (λ (k : ℕ). take (k + count) (l ++ r)) (sym is) ∙ take-append-add l r count

-- ---- the front of a journal

same_generation : (xs : List ℕ) → open_generation (take 23 xs) ≡ open_generation xs
same_generation xs =
    ap (λ (l : List ℕ). cond (is_open (take 23 xs)) (Some (head_in l).generation) None) (take-take 22 23 xs (omega arith))
    ∙ ap (λ (b : Bool). cond b (Some (generation xs)) None) (same_open (cases_lt (length xs) 23))
  where
    long_test : (xs : List ℕ) → 23 ≤ length xs → nat_le 23 (length xs) ≡ true
    long_test xs long = grind (arith, nat_tests)

    same_open : (length xs < 23) ⊎ (23 ≤ length xs) → is_open (take 23 xs) ≡ is_open xs
    same_open (inl less) = ap is_open (take_all 23 xs (omega (arith, less)))
    same_open (inr long) =
        ap (λ (n : ℕ). nat_le 23 n && nat_eq (get_or (take 23 xs) 0 0) 1) (length-take-le 23 xs long)
        ∙ ap (λ (n : ℕ). nat_eq n 1) (front_byte 23 xs (omega arith))
        ∙ ap (λ (b : Bool). b && nat_eq (get_or xs 0 0) 1) (sym (long_test xs long))

pub generation_told : (o : Option (List ℕ)) (front : List ℕ) (told : Option ℕ) → told ≡ open_generation front → IfSome o (λ xs. front ≡ take 23 xs) → IfSome o (λ xs. told ≡ open_generation xs)
generation_told None front told is a = tt
generation_told (Some xs) front told is a = is ∙ ap open_generation a ∙ same_generation xs

-- ---- answers

-- a disk that was not read
pub reading_told : (o : Option (List ℕ)) (node : ℕ) (e : JournalFail) → IsOfReading e → IfSome o (λ xs. Tells {A = Journaled} (Err e) (journal_of node xs))
reading_told None node e of = tt
reading_told (Some xs) node fail.DiskFault of = tt
reading_told (Some xs) node (fail.Damaged at) of = absurd of
reading_told (Some xs) node (fail.Full len) of = absurd of
reading_told (Some xs) node fail.Closed of = absurd of
reading_told (Some xs) node fail.NoMemory of = tt

pub not_full : {A : Type 0} (e : JournalFail) (len : ℕ) → IsOfReading e → ◌≡◌ {A = Result A JournalFail} (Err e) (Err (fail.Full len)) → ⊥
not_full e len of is = let same : e ≡ fail.Full len = cc is in subst IsOfReading same of

-- what was read is what the disk stands for
pub stands_in : (r : Result Journaled JournalFail) (o o' : Option (List ℕ)) (items bytes : List ℕ) (node : ℕ) → Tells r (journal_of node bytes) → IfOk r (λ j. j.head.node ≡ node) → bytes ≡ items → IfSome o (λ xs. items ≡ xs) → o' ≡ o
    → IfOk r (λ j. IfSome o' (StandsFor j))
stands_in (Err e) o o' items bytes node told at is whole keeps = tt
stands_in (Ok j) None o' items bytes node told at is whole keeps = subst (λ (q : Option (List ℕ)). IfSome q (StandsFor j)) (sym keeps) tt
stands_in (Ok j) (Some xs) o' items bytes node told at is whole keeps =
    subst (λ (q : Option (List ℕ)). IfSome q (StandsFor j)) (sym keeps)
    (j, ap (λ (n : ℕ). journal_of n xs) at ∙ ap (journal_of node) (sym (is ∙ whole)) ∙ told, refl)
