-- Lists of keys in their order: two with the same members are the same. The crates above take these lemmas from here.
use Rattle.std.proofs.Common.{◌≡◌, ℕ, Bool, true, false, cond, nat_eq, ◌&&◌, ◌||◌, List, [], ◌∷◌, ◌++◌, append_assoc, append-nil, Option, Some, None, refl, ap, sym, subst, ◌∙◌}
use Rattle.std.specs.Prelude.{map, T}
use Rattle.std.specs.List.{filter, list_any, AllByRecursion, IsDistinct}
use Rattle.std.specs.List.Sorted.{IsStrictlySortedBy, IsPermutation, IsSorted}
use Rattle.std.specs.declared.cmp.Ordering.{Ordering}
use Rattle.std.specs.declared.cmp.Ordering.TheVariants.{Less, Equal, Greater}
use Rattle.std.specs.Ordering.{eq_by_cmp, is_lt, is_eq, nat_cmp}
use Rattle.std.specs.Cmp.{IsTotalOrder, nat_cmp_total, nat_eq_equiv, unsigned_tied}
use Rattle.std.specs.FinMap as fin
use Rattle.std.specs.FinMap.{FinMap, find, is_sorted, nat_cmp-IsAntisymmetric}
use Rattle.std.specs.FinMap.Entries.{below_all, same_entries}
use Rattle.std.proofs.lemmas.List.Sorted.{list_any-IsPermutation, IsNonDecreasingBy-from_sort}
use Rattle.std.proofs.lemmas.List.Kept.{IsStrictlySortedBy-filter}
use Rattle.std.proofs.lemmas.Map.Keys.{IsDistinct-IsPermutation, IsStrictlyIncreasing-from_distinct, sorted_from_strictly_increasing}
use Rattle.kp_layers.specs.declared.history.Level.{Level}
use Rattle.kp_layers.specs.declared.history.Level.TheVariants.{Committed, Latest}
use Rattle.kp_layers.specs.Overlay.{Past}
use Rattle.kp_layers.specs.Listed.{Lists, at_level}
use Rattle.kp_layers.specs.Used.{is_known}
use Rattle.kp_layers.proofs.Used.{has-overlay}

pub both : (a b : Bool) → T a → T b → T (a && b)
both true b h g = g
both false b h g = h

pub first : (a b : Bool) → T (a && b) → T a
first true b h = tt
first false b h = h

pub second : (a b : Bool) → T (a && b) → T b
second true b h = h
second false b h = absurd h

pub less : (r : Ordering) → T (is_lt r) → r ≡ Less
less Less h = refl
less Equal h = absurd h
less Greater h = absurd h

pub no : {A : Type 0} (b : Bool) → b ≡ false → b ≡ true → A
no true e h = absurd (subst T e tt)
no false e h = absurd (subst T (sym h) tt)

pub equal : (r : Ordering) → is_eq r ≡ true → r ≡ Equal
equal Less h = no false refl h
equal Equal h = refl
equal Greater h = no false refl h

pub and-implied : (a b : Bool) → (a ≡ true → b ≡ true) → a && b ≡ a
and-implied true b h = h refl
and-implied false b h = refl

-- keys as the entries of a set
abbrev marks : {K : Type 0} → List K → List (K × Unit {0})
marks [] = []
marks (k ∷ ks) = (k, tt {0}) ∷ marks ks

keys-marks : {K : Type 0} (ks : List K) → map (λ (e : K × Unit {0}). e.0) (marks ks) ≡ ks
keys-marks [] = refl
keys-marks (k ∷ ks) = ap (◌∷◌ k) (keys-marks ks)

marked : (b : Bool) (r : Option (Unit {0})) (c : Bool) → r ≡ cond c (Some (tt {0})) None → cond b (Some (tt {0})) r ≡ cond (b || c) (Some (tt {0})) None
marked true r c h = refl
marked false r c h = h

module _ {K : Type 0} (R : K → K → Ordering) where
  below_marks : (k : K) (ks : List K) → AllByRecursion (λ y. R k y ≡ Less) ks → T (below_all R k (marks ks))
  below_marks k [] h = tt
  below_marks k (x ∷ xs) h = both _ _ (subst (λ r. T (is_lt r)) (sym h.0) tt) (below_marks k xs h.1)

  sorted_marks : (ks : List K) → IsStrictlySortedBy R ks → T (is_sorted R (marks ks))
  unfolding IsStrictlySortedBy
  sorted_marks [] h = tt
  sorted_marks (k ∷ ks) h = both _ _ (below_marks k ks h.0) (sorted_marks ks h.1)

  find-marks : (q : K) (ks : List K) → find R q (marks ks) ≡ cond (list_any (eq_by_cmp R q) ks) (Some (tt {0})) None
  find-marks q [] = refl
  find-marks q (k ∷ ks) = marked (eq_by_cmp R q k) (find R q (marks ks)) (list_any (eq_by_cmp R q) ks) (find-marks q ks)

  below_keys : {X : Type 0} (k : K) (es : List (K × X)) → T (below_all R k es) → AllByRecursion (λ y. R k y ≡ Less) (map (λ e. e.0) es)
  below_keys k [] h = tt
  below_keys k (e ∷ es) h = (less _ (first _ _ h), below_keys k es (second _ _ h))

  -- the keys of entries in their order
  pub sorted_keys : {X : Type 0} (es : List (K × X)) → T (is_sorted R es) → IsStrictlySortedBy R (map (λ e. e.0) es)
  unfolding IsStrictlySortedBy
  sorted_keys [] h = tt
  sorted_keys (e ∷ es) h = (below_keys e.0 es (first _ _ h), sorted_keys es (second _ _ h))

  module _ (o : IsTotalOrder R) (a : fin.IsAntisymmetric R) where
    -- two lists in order with the same members are the same
    pub same_lists : (f : K → Bool) (xs ys : List K) → Lists R f xs → Lists R f ys → xs ≡ ys
    same_lists f xs ys h g =
        sym (keys-marks xs)
        ∙ ap (map (λ e. e.0)) (same_entries R o a (marks xs) (marks ys) (sorted_marks xs h.sorted) (sorted_marks ys g.sorted)
        (λ q. find-marks q xs ∙ ap (λ b. cond b (Some (tt {0})) None) (h.members q ∙ sym (g.members q)) ∙ sym (find-marks q ys)))
        ∙ keys-marks ys

    one_more : (p : K → Bool) (q k : K) (ks : List K) (c b : Bool) → p k ≡ c → eq_by_cmp R q k ≡ b → list_any (eq_by_cmp R q) (filter p ks) ≡ p q && list_any (eq_by_cmp R q) ks → list_any (eq_by_cmp R q) (cond c (k ∷ filter p ks) (filter p ks)) ≡ p q && (b || list_any (eq_by_cmp R q) ks)
    one_more p q k ks true true has is h = ap (λ b. b || list_any (eq_by_cmp R q) (filter p ks)) is ∙ sym (ap (λ b. b && true) (ap p (a q k (equal _ is)) ∙ has))
    one_more p q k ks true false has is h = ap (λ b. b || list_any (eq_by_cmp R q) (filter p ks)) is ∙ h
    one_more p q k ks false true has is h =
        let none : p q ≡ false = ap p (a q k (equal _ is)) ∙ has in
        h ∙ ap (λ b. b && list_any (eq_by_cmp R q) ks) none ∙ sym (ap (λ b. b && true) none)
    one_more p q k ks false false has is h = h

    -- the members of a list that pass a test
    pub any-filter : (p : K → Bool) (q : K) (ks : List K) → list_any (eq_by_cmp R q) (filter p ks) ≡ p q && list_any (eq_by_cmp R q) ks
    any-filter p q [] = sym (and_false (p q)) where
      and_false : (b : Bool) → b && false ≡ false
      and_false true = refl
      and_false false = refl
    any-filter p q (k ∷ ks) = one_more p q k ks (p k) (eq_by_cmp R q k) refl refl (any-filter p q ks)

    -- the keys of a map that pass a test, as a list in order
    pub filter_lists : {X : Type 0} (m : FinMap R X) (p : K → Bool) → Lists R (λ q. p q && fin.contains_key m q) (filter p (fin.keys m))
    filter_lists m p = record {
      sorted = IsStrictlySortedBy-filter R p (fin.keys m) (sorted_keys (fin.entries m) (fin.entries_sorted m));
      members = λ q. any-filter p q (fin.keys m) ∙ ap (λ b. p q && b) (sym (fin.contains_key-keys m q));
    }

    -- a list of them all
    pub filtered_listed : {X : Type 0} (m : FinMap R X) (p : K → Bool) (ks : List K) → IsStrictlySortedBy R ks → ((q : K) → p q ≡ true → fin.contains_key m q ≡ true) → ((q : K) → p q ≡ true → list_any (eq_by_cmp R q) ks ≡ true) → filter p ks ≡ filter p (fin.keys m)
    filtered_listed m p ks sorted inside listed = same_lists p (filter p ks) (filter p (fin.keys m))
        record { sorted = IsStrictlySortedBy-filter R p ks sorted; members = λ q. any-filter p q ks ∙ and-implied (p q) _ (listed q) }
        record { sorted = (filter_lists m p).sorted; members = λ q. (filter_lists m p).members q ∙ and-implied (p q) _ (inside q) }

    -- the keys of a map
    pub keys_listed : {X : Type 0} (m : FinMap R X) (f : K → Bool) (ks : List K) → Lists R f ks → ((q : K) → f q ≡ fin.contains_key m q) → ks ≡ fin.keys m
    keys_listed m f ks h is = same_lists f ks (fin.keys m) h record {
      sorted = sorted_keys (fin.entries m) (fin.entries_sorted m);
      members = λ q. sym (fin.contains_key-keys m q) ∙ sym (is q);
    }

-- the same test on both sides
pub any_same : {K : Type 0} (f g : K → Bool) → ((x : K) → f x ≡ g x) → (xs : List K) → list_any f xs ≡ list_any g xs
any_same f g h [] = refl
any_same f g h (x ∷ xs) = λ i. h x i || any_same f g h xs i

-- a sort of keys that differ
pub sorted_lists : (xs ys : List ℕ) → IsPermutation xs ys → IsSorted nat_cmp ys → IsDistinct nat_eq xs → Lists nat_cmp (λ q. list_any (nat_eq q) xs) ys
sorted_lists xs ys moved sorted apart = record {
  sorted = sorted_from_strictly_increasing ys (IsStrictlyIncreasing-from_distinct ys (IsNonDecreasingBy-from_sort (λ x. x) ys sorted) (IsDistinct-IsPermutation nat_eq nat_eq_equiv.symm xs ys moved apart));
  members = λ q. any_same (eq_by_cmp nat_cmp q) (nat_eq q) (unsigned_tied q) ys ∙ sym (list_any-IsPermutation (nat_eq q) xs ys moved);
}

-- ---- a walk over keys that takes those that pass a test
module _ (p : ℕ → Bool) (all taken left rest : List ℕ) (k : ℕ) where
  pub walk_takes : filter p all ≡ taken ++ filter p left → left ≡ k ∷ rest → p k ≡ true → filter p all ≡ (taken ++ k ∷ []) ++ filter p rest
  walk_takes h is passes =
      h ∙ ap (λ l. taken ++ filter p l) is
      ∙ ap (λ b. taken ++ cond b (k ∷ filter p rest) (filter p rest)) passes
      ∙ sym (append_assoc taken (k ∷ []) (filter p rest))

  pub walk_leaves : filter p all ≡ taken ++ filter p left → left ≡ k ∷ rest → p k ≡ false → filter p all ≡ taken ++ filter p rest
  walk_leaves h is fails =
      h ∙ ap (λ l. taken ++ filter p l) is
      ∙ ap (λ b. taken ++ cond b (k ∷ filter p rest) (filter p rest)) fails

pub walk_ends : (p : ℕ → Bool) (all taken left : List ℕ) → filter p all ≡ taken ++ filter p left → left ≡ [] → filter p all ≡ taken
walk_ends p all taken left h is = h ∙ ap (λ l. taken ++ filter p l) is ∙ append-nil taken

pub walk_finds_none : (p : ℕ → Bool) (all left rest : List ℕ) (k : ℕ) → list_any p all ≡ list_any p left → left ≡ k ∷ rest → p k ≡ false → list_any p all ≡ list_any p rest
walk_finds_none p all left rest k h is fails = h ∙ ap (list_any p) is ∙ ap (λ b. b || list_any p rest) fails

pub walk_finds : (p : ℕ → Bool) (all left rest : List ℕ) (k : ℕ) → list_any p all ≡ list_any p left → left ≡ k ∷ rest → p k ≡ true → list_any p all ≡ true
walk_finds p all left rest k h is passes = h ∙ ap (list_any p) is ∙ ap (λ b. b || list_any p rest) passes

all-filter : {K : Type 0} (P : K → Type 0) (p : K → Bool) (xs : List K) → AllByRecursion P xs → AllByRecursion P (filter p xs)
all-filter P p [] h = tt
all-filter P p (x ∷ xs) h = elim (p x) as (λ b. AllByRecursion P (cond b (x ∷ filter p xs) (filter p xs))) [ true ↦ (h.0, all-filter P p xs h.1) | false ↦ all-filter P p xs h.1 ]

distinct-filter : {K : Type 0} (e : K → K → Bool) (p : K → Bool) (xs : List K) → IsDistinct e xs → IsDistinct e (filter p xs)
unfolding IsDistinct
distinct-filter e p [] h = tt
distinct-filter e p (x ∷ xs) h = elim (p x) as (λ b. IsDistinct e (cond b (x ∷ filter p xs) (filter p xs))) [ true ↦ (all-filter (λ y. e x y ≡ false) p xs h.0, distinct-filter e p xs h.1) | false ↦ distinct-filter e p xs h.1 ]

or-either : (a b : Bool) → a ≡ true → a || b ≡ true
or-either true b h = refl
or-either false b h = no false refl h

module _ {V : Type 0} where
  -- a key with a value is in use
  pub value_known : (level : Level) (x : Past V) (q : ℕ) → fin.contains_key (at_level level x) q ≡ true → is_known x q ≡ true
  value_known Committed x q h = or-either _ _ h
  value_known Latest x q h = sym (has-overlay nat_cmp_total x.base x.writes q) ∙ or-either _ _ h

  -- the keys in use that have a value are those of the map
  pub keys_are : (level : Level) (x : Past V) (used taken ks : List ℕ) → ((q : ℕ) → is_known x q ≡ list_any (nat_eq q) used) → IsDistinct nat_eq used → filter (fin.contains_key (at_level level x)) used ≡ taken → (IsDistinct nat_eq taken → Lists nat_cmp (λ q. list_any (nat_eq q) taken) ks) → ks ≡ fin.keys (at_level level x)
  keys_are level x used taken ks known apart is sorted =
      let p : ℕ → Bool = fin.contains_key (at_level level x) in
      keys_listed nat_cmp nat_cmp_total nat_cmp-IsAntisymmetric (at_level level x) (λ q. list_any (nat_eq q) taken) ks
      (sorted (subst (IsDistinct nat_eq) is (distinct-filter nat_eq p used apart)))
      (λ q.
      ap (list_any (nat_eq q)) (sym is)
      ∙ sym (any_same (eq_by_cmp nat_cmp q) (nat_eq q) (unsigned_tied q) (filter p used))
      ∙ any-filter nat_cmp nat_cmp_total nat_cmp-IsAntisymmetric p q used
      ∙ ap (λ b. p q && b) (any_same (eq_by_cmp nat_cmp q) (nat_eq q) (unsigned_tied q) used ∙ sym (known q))
      ∙ and-implied (p q) (is_known x q) (value_known level x q))
