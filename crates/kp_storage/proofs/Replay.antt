-- Replays and answers, entry by entry.
use Rattle.std.proofs.Common.{◌≡◌, ℕ, zero, suc, ◌+◌, ◌-◌, ◌<◌, ◌≤◌, List, [], ◌∷◌, ◌++◌, length, take, take_all, take-take, length-take-le, get_or, slice_get, false, true≢false, cond, nat_le, Bor, Option, Some, None, refl, sym, ap, ◌∙◌, arith}
use Rattle.std.specs.Option.{option_map, option_copied}
use Rattle.std.specs.Prelude.{IfSome, IsSome}
use Rattle.std.proofs.lemmas.Bool.Decides.{nat_tests}
use Rattle.kp_model.specs.State.{State}
use Rattle.kp_model.specs.LogEntry.{LogEntry}
use Rattle.kp_model.specs.Step.{apply, Outcome}
use Rattle.kp_model.specs.Store.{Store, after, outcome_in, committed_as, commit_answer, commit_leaves, kept, truncated}
use Rattle.kp_model.specs.declared.reply.Committed.{Committed}
use Rattle.kp_model.proofs.Applied.{applied-apply}
use Rattle.kp_storage.specs.Kept.{answers_of}

pub after_append : (s : State) (es : List LogEntry) (e : LogEntry) → after s (es ++ e ∷ []) ≡ (apply (after s es) e).state
unfolding after
after_append s [] e = refl
after_append s (u ∷ es) e = after_append (apply s u).state es e

pub answers_append : (s : State) (es : List LogEntry) (e : LogEntry) (i : ℕ) → i ≡ s.applied + length es + 1 → answers_of s (es ++ e ∷ []) ≡ answers_of s es ++ committed_as i (apply (after s es) e) ∷ []
unfolding after answers_of
answers_append s [] e i h =
    let same : s.applied + 1 ≡ i = omega (arith, h) in
    ap (λ (n : ℕ). committed_as n (apply s e) ∷ []) same
answers_append s (u ∷ es) e i h =
    let same : i ≡ (apply s u).state.applied + length es + 1 = omega (arith, h, applied-apply s u) in
    ap (λ (cs : List Committed). committed_as (s.applied + 1) (apply s u) ∷ cs) (answers_append (apply s u).state es e i same)

pub length-answers : (s : State) (es : List LogEntry) → length (answers_of s es) ≡ length es
unfolding answers_of
length-answers s [] = refl
length-answers s (u ∷ es) = ap suc (length-answers (apply s u).state es)

pub answers_take : (n : ℕ) (s : State) (es : List LogEntry) → take n (answers_of s es) ≡ answers_of s (take n es)
unfolding answers_of
answers_take zero s [] = refl
answers_take zero s (u ∷ es) = refl
answers_take (suc n) s [] = refl
answers_take (suc n) s (u ∷ es) = ap (λ (cs : List Committed). committed_as (s.applied + 1) (apply s u) ∷ cs) (answers_take n (apply s u).state es)

-- the answer of the entry at a place
pub answer_at : (s : State) (es : List LogEntry) (j i : ℕ) → i ≡ s.applied + j + 1 → slice_get (answers_of s es) j ≡ option_map (committed_as i) (outcome_in s es j)
unfolding answers_of outcome_in after
answer_at s [] j i h = refl
answer_at s (u ∷ es) zero i h =
    let same : s.applied + 1 ≡ i = omega (arith, h) in
    ap (λ (n : ℕ). Some (committed_as n (apply s u))) same
answer_at s (u ∷ es) (suc j) i h =
    let same : i ≡ (apply s u).state.applied + j + 1 = omega (arith, h, applied-apply s u) in
    answer_at (apply s u).state es j i same

reply_of : (i : ℕ) (o : Option Outcome) → option_map (λ (c : Committed). c.reply) (option_map (committed_as i) o) ≡ option_map (λ (x : Outcome). x.reply) o
reply_of i None = refl
reply_of i (Some o) = refl

-- the reply of the entry at a place
pub reply_at : (s : State) (es : List LogEntry) (j : ℕ) → option_map (λ (c : Committed). c.reply) (slice_get (answers_of s es) j) ≡ option_map (λ (x : Outcome). x.reply) (outcome_in s es j)
reply_at s es j = ap (option_map (λ (c : Committed). c.reply)) (answer_at s es j (s.applied + j + 1) refl) ∙ reply_of (s.applied + j + 1) (outcome_in s es j)

-- the first answer is that of a commit
pub answer_first : (s : State) (es : List LogEntry) → slice_get (answers_of s es) 0 ≡ commit_answer s es
unfolding answers_of commit_answer
answer_first s [] = refl
answer_first s (u ∷ es) = refl

found : {A : Type 0} (xs : List A) (j : ℕ) (x : A) → j < length xs → x ≡ get_or xs j x → slice_get xs j ≡ Some x
found [] j x lt at = absurd (omega arith)
found (y ∷ xs) zero x lt at = ap Some (sym at)
found (y ∷ xs) (suc j) x lt at = found xs j x (omega arith) at

missing : {A : Type 0} (xs : List A) (j : ℕ) → length xs ≤ j → slice_get xs j ≡ None
missing [] j h = refl
missing (y ∷ xs) zero h = absurd (omega arith)
missing (y ∷ xs) (suc j) h = missing xs j (omega arith)

-- what was answered at a place is what is kept for its index
kept_is : (x : Store) (answers : List Committed) (index place : ℕ) → answers ≡ answers_of x.state x.unapplied → x.state.applied < index → place ≡ index - x.state.applied - 1
    → option_map (λ (c : Committed). c.reply) (slice_get answers place) ≡ kept x index
kept_is x answers index place is lt at =
    let late : nat_le index x.state.applied ≡ false = grind (arith, nat_tests, lt) in
    ap (λ (cs : List Committed). option_map (λ (c : Committed). c.reply) (slice_get cs place)) is
    ∙ reply_at x.state x.unapplied place
    ∙ ap (λ n. option_map (λ (o : Outcome). o.reply) (outcome_in x.state x.unapplied n)) at
    ∙ sym (ap (λ b. cond b None (option_map (λ (o : Outcome). o.reply) (outcome_in x.state x.unapplied (index - x.state.applied - 1)))) late)

-- no answer stands at the place of this index
pub kept_none : (x : Store) (answers : List Committed) (index place : ℕ) → answers ≡ answers_of x.state x.unapplied → x.state.applied < index → place ≡ index - x.state.applied - 1 → length answers ≤ place → None ≡ kept x index
kept_none x answers index place is lt at none = ap (option_map (λ (c : Committed). c.reply)) (sym (missing answers place none)) ∙ kept_is x answers index place is lt at

pub kept_some : (x : Store) (answers : List Committed) (index place : ℕ) (c : Committed) → answers ≡ answers_of x.state x.unapplied → x.state.applied < index → place ≡ index - x.state.applied - 1 → place < length answers → c ≡ get_or answers place c
    → Some c.reply ≡ kept x index
kept_some x answers index place c is lt at there at_place = ap (option_map (λ (c : Committed). c.reply)) (sym (found answers place c there at_place)) ∙ kept_is x answers index place is lt at

-- without entries
pub answer_none : (s : State) (us : List LogEntry) → length us ≡ 0 → None ≡ commit_answer s us
unfolding commit_answer
answer_none s [] h = refl
answer_none s (u ∷ us) h = absurd (omega (arith, h))

pub leaves_none : (x : Store) → length x.unapplied ≡ 0 → x ≡ commit_leaves x.state x.unapplied
unfolding commit_leaves
leaves_none x h = elim x.unapplied as (λ us. length us ≡ 0 → record { state = x.state; unapplied = us } ≡ commit_leaves x.state us) [ [] ↦ λ _. refl | u ∷ us ↦ λ (z : length (u ∷ us) ≡ 0). absurd (omega (arith, z)) ] h

-- the first of the answers is that of a commit
pub answer_popped : (s : State) (us : List LogEntry) (cs : List Committed) (r : Option Committed) → cs ≡ answers_of s us → 0 < length us → ((d : Committed) → r ≡ Some (get_or cs 0 d)) → r ≡ commit_answer s us
unfolding answers_of commit_answer
answer_popped s [] cs r is some first = absurd (omega (arith, some))
answer_popped s (u ∷ us) cs r is some first = first (committed_as (s.applied + 1) (apply s u)) ∙ ap (λ (xs : List Committed). Some (get_or xs 0 (committed_as (s.applied + 1) (apply s u)))) is

-- a store with the first so many entries
abbrev pub shortened : Store → ℕ → Store
shortened x n = record { state = x.state; unapplied = take n x.unapplied }

pub none_forgotten : (x : Store) → x ≡ shortened x (length x.unapplied - 0)
none_forgotten x = ap (λ (us : List LogEntry). let y : Store = record { state = x.state; unapplied = us } in y) (sym (take_all (length x.unapplied - 0) x.unapplied (omega arith)))

pub one_more_forgotten : (x y z : Store) (n : ℕ) → y ≡ shortened x (length x.unapplied - n) → z ≡ shortened y (length y.unapplied - 1) → z ≡ shortened x (length x.unapplied - (n + 1))
one_more_forgotten x y z n e f =
    let m : ℕ = length x.unapplied - n in
    let less : m - 1 ≡ length x.unapplied - (n + 1) = omega arith in
    f
    ∙ ap (λ (w : Store). shortened w (length w.unapplied - 1)) e
    ∙ ap (λ k. shortened (shortened x m) (k - 1)) (length-take-le m x.unapplied (omega arith))
    ∙ ap (λ (us : List LogEntry). let w : Store = record { state = x.state; unapplied = us } in w) (take-take (m - 1) m x.unapplied (omega arith))
    ∙ ap (shortened x) less

pub all_forgotten : (x : Store) (n k : ℕ) → length x.unapplied - n ≡ k - x.state.applied → shortened x (length x.unapplied - n) ≡ truncated x k
all_forgotten x n k e = ap (shortened x) e

-- the first of the answers, lent
lent_at_front : (cs : List Committed) (r : Option (Bor Committed)) → (0 < length cs → IsSome r) → (IsSome r → 0 < length cs) → IfSome r (λ x. x.now ≡ get_or cs 0 x.now) → option_copied r ≡ slice_get cs 0
lent_at_front [] None v w l = refl
lent_at_front [] (Some x) v w l = let some : 0 < 0 = w refl in absurd (omega (arith, some))
lent_at_front (y ∷ ys) None v w l = absurd (true≢false (sym (v (omega arith))))
lent_at_front (y ∷ ys) (Some x) v w l = ap Some l

pub answer_lent : (x : Store) (cs : List Committed) (r : Option (Bor Committed)) → cs ≡ answers_of x.state x.unapplied → (0 < length cs → IsSome r) → (IsSome r → 0 < length cs) → IfSome r (λ x. x.now ≡ get_or cs 0 x.now) → option_copied r ≡ commit_answer x.state x.unapplied
answer_lent x cs r is v w l = lent_at_front cs r v w l ∙ ap (λ (ds : List Committed). slice_get ds 0) is ∙ answer_first x.state x.unapplied
