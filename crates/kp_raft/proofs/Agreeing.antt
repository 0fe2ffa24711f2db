-- How many entries of a message agree with a log, one by one.
use Rattle.std.proofs.Common.{◌≡◌, ℕ, zero, suc, ◌+◌, ◌-◌, ◌<◌, ◌≤◌, true, false, List, [], ◌∷◌, ◌++◌, length, take, drop, get_or, refl, sym, ◌∙◌, ap, arith, Option, Some, None, slice_get}
use Rattle.std.specs.Prelude.{Bool, option_map, cond, nat_eq, nat_le, ◌&&◌}
use Rattle.std.proofs.lemmas.Bool.Decides.{nat_tests}
use Rattle.std.proofs.Math.Seq.{drop-cons}
use Rattle.kp_model.specs.LogEntry.{LogEntry}
use Rattle.kp_entry.specs.Log.{Log, last_from, last_index, has_index, term_of, behind}
use Rattle.kp_raftlog.proofs.Totals.{len_dropped, drop_next, all_dropped}
use Rattle.kp_raft.specs.Appends.{has_term, agreeing}

taken_one : (n : ℕ) (es : List LogEntry) (y : LogEntry) (ys : List LogEntry) → drop n es ≡ y ∷ ys → take (n + 1) es ≡ take n es ++ y ∷ []
taken_one zero [] y ys is = absurd (cc is)
taken_one zero (x ∷ es) y ys is = let same : x ≡ y = cc is in ap (λ (z : LogEntry). z ∷ []) same
taken_one (suc n) [] y ys is = absurd (cc is)
taken_one (suc n) (x ∷ es) y ys is = let count : suc n + 1 ≡ suc (n + 1) = omega arith in ap (λ (m : ℕ). take m (x ∷ es)) count ∙ ap (λ (zs : List LogEntry). x ∷ zs) (taken_one n es y ys is)

last_of : (t : ℕ) (es : List LogEntry) (y : LogEntry) → last_from t (es ++ y ∷ []) ≡ y.term
last_of t [] y = refl
last_of t (x ∷ es) y = last_of x.term es y

at_tail : (log : Log) (at : ℕ) (x : LogEntry) (xs tail : List LogEntry) → log.base ≤ at → behind log at ≡ tail → agreeing tail (x ∷ xs) ≡ cond (has_term log (at + 1) x.term) (suc (agreeing (behind log (at + 1)) xs)) 0
at_tail log at x xs [] le is =
    let none : length log.entries - (at - log.base) ≡ 0 = sym (len_dropped (at - log.base) log.entries) ∙ ap (λ (es : List LogEntry). length es) is in
    let high : nat_le (at + 1) (log.base + length log.entries) ≡ false = grind (arith, nat_tests) in
    let low : nat_le log.base (at + 1) ≡ true = grind (arith, nat_tests) in
    rw (low, high) refl
at_tail log at x xs (y ∷ ys) le is =
    let some : length log.entries - (at - log.base) ≡ length (y ∷ ys) = sym (len_dropped (at - log.base) log.entries) ∙ ap (λ (es : List LogEntry). length es) is in
    let more : 0 < length (y ∷ ys) = omega arith in
    let high : nat_le (at + 1) (log.base + length log.entries) ≡ true = grind (arith, nat_tests) in
    let low : nat_le log.base (at + 1) ≡ true = grind (arith, nat_tests) in
    let count : at + 1 - log.base ≡ (at - log.base) + 1 = omega (arith, le) in
    let term : term_of log (at + 1) ≡ y.term = ap (λ (m : ℕ). last_from log.base_term (take m log.entries)) count ∙ ap (λ (es : List LogEntry). last_from log.base_term es) (taken_one (at - log.base) log.entries y ys is) ∙ last_of log.base_term (take (at - log.base) log.entries) y in
    let rest : behind log (at + 1) ≡ ys = ap (λ (m : ℕ). drop m log.entries) count ∙ sym (drop_next (at - log.base) log.entries) ∙ ap (λ (es : List LogEntry). drop 1 es) is in
    rw (low, high, term, rest) refl

pub agree_cons : (log : Log) (at : ℕ) (x : LogEntry) (xs : List LogEntry) → log.base ≤ at → agreeing (behind log at) (x ∷ xs) ≡ cond (has_term log (at + 1) x.term) (suc (agreeing (behind log (at + 1)) xs)) 0
agree_cons log at x xs le = at_tail log at x xs (behind log at) le refl

agree_none : (tail : List LogEntry) → agreeing tail [] ≡ 0
agree_none [] = refl
agree_none (x ∷ tail) = refl

-- ---- a loop over the entries from place `first` on

agree_at : (log : Log) (at first k whole : ℕ) (es : List LogEntry) (d : LogEntry) (b : Bool) → log.base ≤ at → first + k < length es → whole ≡ k + agreeing (behind log (at + k)) (drop (first + k) es) → has_term log (at + k + 1) (get_or es (first + k) d).term ≡ b → whole ≡ k + cond b (suc (agreeing (behind log (at + k + 1)) (drop (suc (first + k)) es))) 0
agree_at log at first k whole es d b le lt so_far test =
    let from : log.base ≤ at + k = omega (arith, le) in
    so_far
    ∙ ap (λ (xs : List LogEntry). k + agreeing (behind log (at + k)) xs) (drop-cons es (first + k) d lt)
    ∙ ap (λ (n : ℕ). k + n) (agree_cons log (at + k) (get_or es (first + k) d) (drop (suc (first + k)) es) from)
    ∙ ap (λ (c : Bool). k + cond c (suc (agreeing (behind log (at + k + 1)) (drop (suc (first + k)) es))) 0) test

pub agree_on : (log : Log) (at first k whole : ℕ) (es : List LogEntry) (d : LogEntry) → (first < length es → log.base ≤ at) → k < length es - first → whole ≡ k + agreeing (behind log (at + k)) (drop (first + k) es) → has_term log (at + k + 1) (get_or es (first + k) d).term ≡ true → whole ≡ k + 1 + agreeing (behind log (at + (k + 1))) (drop (first + (k + 1)) es)
agree_on log at first k whole es d le lt so_far test =
    let next : whole ≡ k + suc (agreeing (behind log (at + k + 1)) (drop (suc (first + k)) es)) = agree_at log at first k whole es d true (le (omega (arith, lt))) (omega (arith, lt)) so_far test in
    let place : at + k + 1 ≡ at + (k + 1) = omega arith in
    let count : suc (first + k) ≡ first + (k + 1) = omega arith in
    let n : ℕ = agreeing (behind log (at + k + 1)) (drop (suc (first + k)) es) in
    let moved : n ≡ agreeing (behind log (at + (k + 1))) (drop (first + (k + 1)) es) = ap (λ (m : ℕ). agreeing (behind log m) (drop (suc (first + k)) es)) place ∙ ap (λ (m : ℕ). agreeing (behind log (at + (k + 1))) (drop m es)) count in
    omega (arith, next, moved)

pub agree_stops : (log : Log) (at first k whole : ℕ) (es : List LogEntry) (d : LogEntry) → (first < length es → log.base ≤ at) → k < length es - first → whole ≡ k + agreeing (behind log (at + k)) (drop (first + k) es) → has_term log (at + k + 1) (get_or es (first + k) d).term ≡ false → k ≡ whole
agree_stops log at first k whole es d le lt so_far test =
    let next : whole ≡ k + 0 = agree_at log at first k whole es d false (le (omega (arith, lt))) (omega (arith, lt)) so_far test in
    omega (arith, next)

pub agree_ends : (log : Log) (at first k whole : ℕ) (es : List LogEntry) → length es - first ≤ k → k ≤ length es - first → whole ≡ k + agreeing (behind log (at + k)) (drop (first + k) es) → length es - first ≡ whole
agree_ends log at first k whole es above below so_far =
    let none : drop (first + k) es ≡ [] = all_dropped (first + k) es (omega (arith, above)) in
    let left : agreeing (behind log (at + k)) (drop (first + k) es) ≡ 0 = ap (λ (xs : List LogEntry). agreeing (behind log (at + k)) xs) none ∙ agree_none (behind log (at + k)) in
    omega (arith, so_far, left, above, below)

-- ---- the term of an entry

pub term_there : (es : List LogEntry) (k t : ℕ) (e : LogEntry) → Some t ≡ option_map (λ (x : LogEntry). x.term) (slice_get es k) → t ≡ (get_or es k e).term
term_there [] k t e is = absurd (cc is)
term_there (x ∷ es) zero t e is = let same : t ≡ x.term = cc is in same
term_there (x ∷ es) (suc k) t e is = term_there es k t e is

pub none_there : (es : List LogEntry) (k : ℕ) → None ≡ option_map (λ (x : LogEntry). x.term) (slice_get es k) → length es ≤ k
none_there [] k is = omega arith
none_there (x ∷ es) zero is = absurd (cc is)
none_there (x ∷ es) (suc k) is = omega (arith, none_there es k is)
