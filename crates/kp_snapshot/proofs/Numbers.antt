-- Numbers that rise, and sets of holders.
use Rattle.std.proofs.Common.{◌≡◌, ℕ, zero, suc, ◌+◌, ◌-◌, ◌≤◌, ◌<◌, Bool, true, false, cond, List, [], ◌∷◌, ◌++◌, length, get_or, Ok, Err, Some, refl, sym, ap, ◌∙◌, arith, inl, inr, length-append}
use Rattle.std.specs.Prelude.{◌||◌, ◌==◌, nat_lt, slice_get}
use Rattle.std.specs.List.{list_all, list_any}
use Rattle.std.specs.List.Sorted.{IsBinarySearchResult}
use Rattle.std.specs.Ordering.{nat_cmp}
use Rattle.std.specs.HashSet.{HashSet, contains}
use Rattle.std.proofs.lemmas.Bool.{cases_lt}
use Rattle.std.proofs.lemmas.Bool.Decides.{nat_tests}
use Rattle.std.proofs.lemmas.List.{get_or_append_left, get_or-append_right}
use Rattle.std.proofs.lemmas.List.Folds.{list_any_at, list_any-append, list_all_at}
use Rattle.std.proofs.lemmas.List.Sorted.{searched}
use Rattle.std.proofs.lemmas.Option.{get_or_from_slice_get}
use Rattle.kp_model.specs.declared.session.Origin.{Origin}
use Rattle.kp_model.specs.State.{same_origin}
use Rattle.kp_snapshot.specs.Knowing.{HasEach, holder_of, same_holder}
use Rattle.kp_snapshot.specs.Ups.{AreRising}
use Rattle.kp_snapshot.specs.declared.known.Holder.{Holder}
use Rattle.kp_snapshot.proofs.Ordered.{left, right, both}
use Rattle.kp_snapshot.proofs.Kept.{not_falling}

is_less : (a b : ℕ) → nat_lt a b ≡ true → a < b
is_less a b e = grind (arith, nat_tests)

less_is : (a b : ℕ) → a < b → nat_lt a b ≡ true
less_is a b e = grind (arith, nat_tests)

not_less : (a b : ℕ) → b ≤ a → nat_lt a b ≡ false
not_less a b e = grind (arith, nat_tests)

-- ---- all are below

all_below : (xs : List ℕ) (x : ℕ) → ((i : ℕ) → i < length xs → get_or xs i 0 < x) → list_all (λ b. nat_lt b x) xs ≡ true
all_below [] x each = refl
all_below (y ∷ ys) x each = both (nat_lt y x) (list_all (λ b. nat_lt b x) ys) (less_is y x (each 0 (omega arith))) (all_below ys x (λ i lt. each (suc i) (omega (arith, lt))))

each_below : (xs : List ℕ) (x : ℕ) → list_all (λ b. nat_lt b x) xs ≡ true → (i : ℕ) → i < length xs → get_or xs i 0 < x
each_below [] x e i lt = absurd (omega (arith, lt))
each_below (y ∷ ys) x e zero lt = is_less y x (left (nat_lt y x) (list_all (λ b. nat_lt b x) ys) e)
each_below (y ∷ ys) x e (suc i) lt = each_below ys x (right (nat_lt y x) (list_all (λ b. nat_lt b x) ys) e) i (omega (arith, lt))

-- the last is below where all are
below_last : (xs : List ℕ) (x last : ℕ) → AreRising xs → 0 < length xs → last ≡ get_or xs (length xs - 1) 0 → nat_lt last x ≡ list_all (λ b. nat_lt b x) xs
below_last xs x last up some e =
    elim (cases_lt last x) [
      | inl less ↦ less_is last x less ∙ sym (all_below xs x (λ i lt.
          elim (cases_lt i (length xs - 1)) [
            | inl before ↦ omega (arith, up i (length xs - 1) before (omega (arith, some)), e, less)
            | inr here ↦ let same : i ≡ length xs - 1 = omega (arith, here, lt) in omega (arith, ap (λ (k : ℕ). get_or xs k 0) same, e, less)
          ]))
      | inr more ↦ not_less last x more ∙ sym (list_all_at (λ b. nat_lt b x) xs (length xs - 1) 0 (omega (arith, some)) (not_less (get_or xs (length xs - 1) 0) x (omega (arith, e, more))))
    ]

pub last_is_below : (xs : List ℕ) (x last : ℕ) → AreRising xs → Some last ≡ slice_get xs (length xs - 1) → nat_lt last x ≡ list_all (λ b. nat_lt b x) xs
last_is_below [] x last up e = absurd cc
last_is_below (y ∷ ys) x last up e = below_last (y ∷ ys) x last up (omega arith) (sym (get_or_from_slice_get (y ∷ ys) (length (y ∷ ys) - 1) last 0 (sym e)))

-- one more above all
pub rising_more : (xs : List ℕ) (x : ℕ) → AreRising xs → list_all (λ b. nat_lt b x) xs ≡ true → AreRising (xs ++ x ∷ [])
rising_more xs x up all i j lt lu =
    let n = length-append xs (x ∷ []) in
    let within : j < length xs + 1 = omega (arith, lu, n) in
    elim (cases_lt j (length xs)) [
      | inl inside ↦ omega (arith, get_or_append_left xs (x ∷ []) 0 i (omega (arith, lt, inside)), get_or_append_left xs (x ∷ []) 0 j inside, up i j lt inside)
      | inr end ↦
          let at : j - length xs ≡ 0 = omega (arith, within) in
          let last = get_or-append_right xs (x ∷ []) (length xs) j 0 refl end ∙ ap (λ (k : ℕ). get_or (x ∷ []) k 0) at in
          let first : i < length xs = omega (arith, lt, within, end) in
          omega (arith, get_or_append_left xs (x ∷ []) 0 i first, each_below xs x all i first, last)
    ]

pub rising_none : AreRising []
rising_none i j lt lu = absurd (omega (arith, lu))

-- ---- looked for

none_is : (xs : List ℕ) (x : ℕ) → ((i : ℕ) → i < length xs → (get_or xs i 0 == x) ≡ false) → list_any (λ b. b == x) xs ≡ false
none_is [] x each = refl
none_is (y ∷ ys) x each = by (y == x) (each 0 (omega arith)) (none_is ys x (λ i lt. each (suc i) (omega (arith, lt))))
  where
    by : (t : Bool) → t ≡ false → list_any (λ b. b == x) ys ≡ false → (t || list_any (λ b. b == x) ys) ≡ false
    by true e f = absurd cc
    by false e f = f

apart : (a b : ℕ) → ¬ (a ≡ b) → (a == b) ≡ false
apart a b e = grind (arith, nat_tests)

same : (a b : ℕ) → a ≡ b → (a == b) ≡ true
same a b e = grind (arith, nat_tests)

pub found : (xs : List ℕ) (x at : ℕ) → IsBinarySearchResult (λ y. nat_cmp y x) xs (Ok at) → AreRising xs → true ≡ list_any (λ b. b == x) xs
found xs x at is up =
    let s : (at < length xs) × (get_or xs at 0 ≡ x) = searched xs x (Ok at) is (not_falling xs up) in
    sym (list_any_at (λ b. b == x) xs at 0 s.0 (same (get_or xs at 0) x s.1))

pub missed : (xs : List ℕ) (x at : ℕ) → IsBinarySearchResult (λ y. nat_cmp y x) xs (Err at) → AreRising xs → false ≡ list_any (λ b. b == x) xs
missed xs x at is up =
    let s : (at ≤ length xs) × ((k : ℕ) → k < at → get_or xs k 0 < x) × ((k : ℕ) → at ≤ k → k < length xs → x < get_or xs k 0) = searched xs x (Err at) is (not_falling xs up) in
    sym (none_is xs x (λ i lt.
    elim (cases_lt i at) [
      | inl less ↦ apart (get_or xs i 0) x (λ e. absurd (omega (arith, s.1 i less, e)))
      | inr more ↦ apart (get_or xs i 0) x (λ e. absurd (omega (arith, s.2 i more lt, e)))
    ]))

-- ---- holders

pub has_more : {S : Type 0} (old new : HashSet Holder S) (os : List Origin) (x : Origin) → HasEach old os → ((q : Holder) → contains same_holder new q ≡ cond (same_holder (holder_of x) q) true (contains same_holder old q)) → HasEach new (os ++ x ∷ [])
has_more old new os x each more o =
    more (holder_of o)
    ∙ ap (cond (same_origin x o) true) (each o)
    ∙ by (same_origin x o) (list_any (λ b. same_origin b o) os)
    ∙ sym (list_any-append (λ b. same_origin b o) os (x ∷ []))
  where
    by : (s t : Bool) → cond s true t ≡ (t || (s || false))
    by true true = refl
    by true false = refl
    by false true = refl
    by false false = refl
