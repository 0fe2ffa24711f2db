-- The journal of a new slot.
use Rattle.std.proofs.Common.{◌≡◌, ℕ, ◌^◌, ◌≤◌, ◌<◌, Bool, true, false, List, [], ◌∷◌, ◌++◌, length, take, drop, Some, None, Ok, refl, ◌∙◌, ap, arith, length-append, length-drop}
use Rattle.std.specs.Prelude.{nat_le, nat_eq, ◌&&◌, ◌==◌, if◌then◌else◌}
use Rattle.std.specs.Int.{w32, w64, to_be_bytes, from_be_bytes}
use Rattle.std.proofs.lemmas.Bool.Decides.{nat_tests}
use Rattle.std.proofs.lemmas.List.{length-take}
use Rattle.std.proofs.lemmas.Nat.{from_be_bytes-to_be_bytes_8}
use Rattle.kp_model.specs.Grammar.{is_number}
use Rattle.kp_entry.specs.declared.record.Record.{Record}
use Rattle.kp_entry.specs.Records.{spelled, has_base, IsRun}
use Rattle.kp_journal.specs.declared.head.Head.{Head}
use Rattle.kp_journal.specs.Frames.{shut_at}
use Rattle.kp_journal.specs.Gates.{staged, opened, appended}
use Rattle.kp_journal.specs.Heads.{mark, head_in, is_generation, head_fault, IsHead, headed}
use Rattle.kp_journal.specs.Journals.{Journaled, written, journal_of, with_batch, unread, new_journal, finished}
use Rattle.kp_journal.proofs.Staging.{staged_long}
use Rattle.kp_journal.proofs.Framing.{closed}
use Rattle.kp_journal.proofs.Standing.{joined, written_torn, as_written}

small : (n : ℕ) → is_number n ≡ true → n < 2 ^ 64
small n e = let test : nat_le n 4611686018427387904 ≡ true = e in let le : n ≤ 4611686018427387904 = grind (arith, nat_tests) in omega (arith, le)

first_of : (a b : Bool) → (a && b) ≡ true → b ≡ true
first_of true b e = e
first_of false b e = absurd (cc e)

-- the bytes of a head, whatever stands at its gate
front : ℕ → Head → List ℕ
front x h = x ∷ (to_be_bytes w32 mark ++ (to_be_bytes w64 h.generation ++ (h.node ∷ to_be_bytes w64 h.image_len)))

head_says : (x : ℕ) (h : Head) → IsHead h → head_in (front x h) ≡ h
unfolding front
head_says x h is =
    let g : from_be_bytes w64 (to_be_bytes w64 h.generation) ≡ h.generation = from_be_bytes-to_be_bytes_8 h.generation (small h.generation (first_of _ _ is.generation)) in
    let n : from_be_bytes w64 (to_be_bytes w64 h.image_len) ≡ h.image_len = from_be_bytes-to_be_bytes_8 h.image_len (small h.image_len is.image_len) in
    λ i. record { generation = g i; node = h.node; image_len = n i }

head_fine : (x : ℕ) (h : Head) → IsHead h → head_fault h.node (front x h) ≡ None
unfolding front head_fault
head_fine x h is =
    let same : nat_eq h.node h.node ≡ true = grind (arith, nat_tests) in
    ap (λ (k : Head). if is_generation k.generation then (if k.node == h.node then (if is_number k.image_len then None else Some 14) else Some 13) else Some 5) (head_says x h is)
    ∙ ap (λ (b : Bool). if b then (if h.node == h.node then (if is_number h.image_len then None else Some 14) else Some 13) else Some 5) is.generation
    ∙ ap (λ (b : Bool). if b then (if is_number h.image_len then None else Some 14) else Some 13) same
    ∙ ap (λ (b : Bool). if b then None else Some 14) is.image_len

-- a head and a closed gate
headed_stands : (x : ℕ) (h : Head) → IsHead h → written h.node (front x h ++ 0 ∷ []) ≡ Ok (unread h 22)
unfolding front
headed_stands x h is =
    joined h.node (front x h) (0 ∷ []) (shut_at 22) refl (head_fine x h is) (closed 0 22 0 [] (λ bad. absurd (omega (arith, bad))))
    ∙ ap (λ (k : Head). Ok (unread k 22)) (head_says x h is)

headed_is : (x : ℕ) (xs : List ℕ) (h : Head) → headed h (x ∷ xs) ≡ front x h ++ 0 ∷ []
unfolding front
headed_is x xs h = refl

-- the head's gate is no part of what the bytes say
written_first : (node x y : ℕ) (t : List ℕ) → written node (x ∷ t) ≡ written node (y ∷ t)
unfolding written head_fault
written_first node x y t = refl

-- the head is opened last
opens : (node : ℕ) (ys : List ℕ) (v : Journaled) → written node ys ≡ Ok v → 23 ≤ length ys → journal_of node (opened 0 ys) ≡ Ok v
unfolding opened
opens node [] v e long = absurd (omega (arith, long))
opens node (z ∷ t) v e long =
    let test : nat_le 23 (length (1 ∷ t)) ≡ true = let n : 23 ≤ length (1 ∷ t) = omega (arith, long) in grind (arith, nat_tests) in
    as_written node (1 ∷ t) (ap (λ (b : Bool). b && true) test) ∙ written_first node 1 z t ∙ e

appended_long : (ys body : List ℕ) → 22 < length ys → 23 ≤ length (appended 22 body ys)
unfolding opened
appended_long ys body lt =
    let s = staged 22 body ys in
    omega (arith, length-append (take 22 s) (1 ∷ drop 23 s), length-take 22 s, length-drop 23 s, staged_long 22 body ys lt)

appended_is : (node : ℕ) (ys : List ℕ) (v : Journaled) (rs : List Record) → written node ys ≡ Ok v → 22 ≤ length ys → IsRun rs → has_base rs ≡ false → length (spelled rs) < 2 ^ 32 → written node (appended v.gate (spelled rs) ys) ≡ Ok (with_batch rs v)
unfolding opened
appended_is node ys v rs e long run based short = written_torn node ys (opened v.gate (staged v.gate (spelled rs) ys)) v rs long e run based short 1 refl

pub finished_is : (h : Head) (rs : List Record) (xs : List ℕ) → IsHead h → IsRun rs → has_base rs ≡ false → length (spelled rs) < 2 ^ 32 → 0 < length xs → journal_of h.node (finished h rs xs) ≡ Ok (new_journal h rs)
finished_is h rs [] is run based short some = absurd (omega (arith, some))
finished_is h rs (x ∷ xs) is run based short some =
    let ys = headed h (x ∷ xs) in
    let size : length ys ≡ 23 = refl in
    let base : written h.node ys ≡ Ok (unread h 22) = ap (written h.node) (headed_is x xs h) ∙ headed_stands x h is in
    let made : written h.node (appended 22 (spelled rs) ys) ≡ Ok (new_journal h rs) = appended_is h.node ys (unread h 22) rs base (omega (arith, size)) run based short in
    opens h.node (appended 22 (spelled rs) ys) (new_journal h rs) made (appended_long ys (spelled rs) (omega (arith, size)))
