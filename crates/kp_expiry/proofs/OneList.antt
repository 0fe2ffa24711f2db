-- Only one list has the sessions that are due, in their order.
use Rattle.std.proofs.Common.{◌≡◌, ◌≢◌, ℕ, Bool, true, false, cond, nat_eq, inl, inr, List, [], ◌∷◌, Option, Some, None, is_some, refl, ap, sym, ◌∙◌, subst}
use Rattle.std.specs.Prelude.{map, T, ◌&&◌, ◌||◌}
use Rattle.std.specs.List.{filter, list_any, AllByRecursion}
use Rattle.std.specs.List.Sorted.{IsStrictlySortedBy}
use Rattle.std.specs.declared.cmp.Ordering.{Ordering}
use Rattle.std.specs.declared.cmp.Ordering.TheVariants.{Less, Equal, Greater}
use Rattle.std.specs.Ordering.{eq_by_cmp, is_lt, is_eq, nat_cmp, ordering_then}
use Rattle.std.specs.Cmp.{IsTotalOrder, nat_cmp_is, unsigned_tied}
use Rattle.std.proofs.lemmas.Cmp.{on_total}
use Rattle.std.proofs.lemmas.Map.Lookups.{exact_pairs, exact_unsigned}
use Rattle.std.proofs.lemmas.Bool.{false≢true}
use Rattle.std.proofs.lemmas.Bool.Decides.{eqb_tells}
use Rattle.std.specs.FinMap as fin
use Rattle.std.specs.FinMap.{FinMap, find, is_sorted, get-entries, get-from_entries}
use Rattle.std.specs.FinMap.Entries.{below_all, same_entries}
use Rattle.std.proofs.lemmas.List.Kept.{IsStrictlySortedBy-filter}
use Rattle.kp_expiry.specs.declared.heard.Heard.{Heard}
use Rattle.kp_expiry.specs.Due.{deadline_in, due_in, by_deadline, ListsDue, in_turn, due}
use Rattle.kp_expiry.proofs.Listed.{pair_total}

both : (a b : Bool) → T a → T b → T (a && b)
both true b h g = g
both false b h g = h

-- ---- a list in strict order as a set
abbrev marked : {K : Type 0} → List K → List (K × Unit {0})
marked [] = []
marked (k ∷ ks) = (k, tt {0}) ∷ marked ks

keys_of_marked : {K : Type 0} (ks : List K) → map (λ (e : K × Unit {0}). e.0) (marked ks) ≡ ks
keys_of_marked [] = refl
keys_of_marked (k ∷ ks) = ap (◌∷◌ k) (keys_of_marked ks)

found_first : (b : Bool) (r : Option (Unit {0})) (c : Bool) → r ≡ cond c (Some (tt {0})) None → cond b (Some (tt {0})) r ≡ cond (b || c) (Some (tt {0})) None
found_first true r c h = refl
found_first false r c h = h

left : (a b : Bool) → T (a && b) → T a
left true b h = tt
left false b h = h

right : (a b : Bool) → T (a && b) → T b
right true b h = h
right false b h = absurd h

is_less : (r : Ordering) → T (is_lt r) → r ≡ Less
is_less Less h = refl
is_less Equal h = absurd h
is_less Greater h = absurd h

module _ {K : Type 0} (R : K → K → Ordering) where
  first_below : (k : K) (ks : List K) → AllByRecursion (λ y. R k y ≡ Less) ks → T (below_all R k (marked ks))
  first_below k [] h = tt
  first_below k (x ∷ xs) h = both _ _ (subst (λ r. T (is_lt r)) (sym h.0) tt) (first_below k xs h.1)

  marked_sorted : (ks : List K) → IsStrictlySortedBy R ks → T (is_sorted R (marked ks))
  unfolding IsStrictlySortedBy
  marked_sorted [] h = tt
  marked_sorted (k ∷ ks) h = both _ _ (first_below k ks h.0) (marked_sorted ks h.1)

  found_marked : (q : K) (ks : List K) → find R q (marked ks) ≡ cond (list_any (eq_by_cmp R q) ks) (Some (tt {0})) None
  found_marked q [] = refl
  found_marked q (k ∷ ks) = found_first (eq_by_cmp R q k) (find R q (marked ks)) (list_any (eq_by_cmp R q) ks) (found_marked q ks)

  keys_above : {X : Type 0} (k : K) (es : List (K × X)) → T (below_all R k es) → AllByRecursion (λ y. R k y ≡ Less) (map (λ e. e.0) es)
  keys_above k [] h = tt
  keys_above k (e ∷ es) h = (is_less _ (left _ _ h), keys_above k es (right _ _ h))

  keys_sorted : {X : Type 0} (es : List (K × X)) → T (is_sorted R es) → IsStrictlySortedBy R (map (λ e. e.0) es)
  unfolding IsStrictlySortedBy
  keys_sorted [] h = tt
  keys_sorted (e ∷ es) h = (keys_above e.0 es (left _ _ h), keys_sorted es (right _ _ h))

  one_list : IsTotalOrder R → fin.IsAntisymmetric R → (xs ys : List K) → IsStrictlySortedBy R xs → IsStrictlySortedBy R ys → ((q : K) → list_any (eq_by_cmp R q) xs ≡ list_any (eq_by_cmp R q) ys) → xs ≡ ys
  one_list o a xs ys xs_sorted ys_sorted h =
      sym (keys_of_marked xs)
      ∙ ap (map (λ (e : K × Unit {0}). e.0)) (same_entries R o a (marked xs) (marked ys) (marked_sorted xs xs_sorted) (marked_sorted ys ys_sorted) (λ q.
      found_marked q xs ∙ ap (λ b. cond b (Some (tt {0})) None) (h q) ∙ sym (found_marked q ys)))
      ∙ keys_of_marked ys

-- two orders that hold the same keys equal
same_find : {X : Type 0} (R S : ℕ → ℕ → Ordering) → ((a b : ℕ) → eq_by_cmp R a b ≡ eq_by_cmp S a b) → (q : ℕ) (es : List (ℕ × X)) → find R q es ≡ find S q es
same_find R S h q [] = refl
same_find R S h q (e ∷ es) = ap (λ b. cond b (Some e.1) (find R q es)) (h q e.0) ∙ ap (cond (eq_by_cmp S q e.0) (Some e.1)) (same_find R S h q es)

-- ---- the order of sessions
not_equal : (r : Ordering) → r ≢ Equal → is_eq r ≡ false
not_equal Less h = refl
not_equal Equal h = absurd (h refl)
not_equal Greater h = refl

any_same : (f g : ℕ → Bool) → ((x : ℕ) → f x ≡ g x) → (xs : List ℕ) → list_any f xs ≡ list_any g xs
any_same f g h [] = refl
any_same f g h (x ∷ xs) = λ i. h x i || any_same f g h xs i

and_no : (b : Bool) → b && false ≡ false
and_no true = refl
and_no false = refl

kept_one : (p : ℕ → Bool) (q k : ℕ) (ks : List ℕ) (c b : Bool) → nat_eq q k ≡ b → (b ≡ true → p q ≡ c) → list_any (nat_eq q) (filter p ks) ≡ p q && list_any (nat_eq q) ks → list_any (nat_eq q) (cond c (k ∷ filter p ks) (filter p ks)) ≡ p q && (b || list_any (nat_eq q) ks)
kept_one p q k ks true true is has h = ap (λ b. b || list_any (nat_eq q) (filter p ks)) is ∙ sym (ap (λ b. b && true) (has refl))
kept_one p q k ks true false is has h = ap (λ b. b || list_any (nat_eq q) (filter p ks)) is ∙ h
kept_one p q k ks false true is has h = h ∙ ap (λ b. b && list_any (nat_eq q) ks) (has refl) ∙ sym (ap (λ b. b && true) (has refl))
kept_one p q k ks false false is has h = h

any_kept : (p : ℕ → Bool) (q : ℕ) (ks : List ℕ) → list_any (nat_eq q) (filter p ks) ≡ p q && list_any (nat_eq q) ks
any_kept p q [] = sym (and_no (p q))
any_kept p q (k ∷ ks) = elim (eqb_tells q k) [
  | inl e ↦ kept_one p q k ks (p k) true e.0 (λ _. ap p e.1) (any_kept p q ks) ∙ ap (λ b. p q && (b || list_any (nat_eq q) ks)) (sym e.0)
  | inr e ↦ kept_one p q k ks (p k) false e.0 (λ no. absurd (false≢true no)) (any_kept p q ks) ∙ ap (λ b. p q && (b || list_any (nat_eq q) ks)) (sym e.0)
]

module _ (m : FinMap nat_cmp Heard) where
  total : IsTotalOrder (by_deadline m)
  total = on_total (λ (s : ℕ). (deadline_in (fin.get m s), s)) pair_total

  exact : fin.IsAntisymmetric (by_deadline m)
  exact a b e = ap (λ (x : ℕ × ℕ). x.1) (exact_pairs nat_cmp nat_cmp exact_unsigned exact_unsigned (deadline_in (fin.get m a), a) (deadline_in (fin.get m b), b) e)

  tied : (a b : ℕ) → eq_by_cmp (by_deadline m) a b ≡ nat_eq a b
  tied a b = elim (eqb_tells a b) [
    | inl e ↦
        ap is_eq (ap (λ o. ordering_then o (nat_cmp a b)) (sym (nat_cmp_is (deadline_in (fin.get m a)) (deadline_in (fin.get m b)) Equal (ap (λ s. deadline_in (fin.get m s)) e.1))) ∙ sym (nat_cmp_is a b Equal e.1))
        ∙ sym e.0
    | inr e ↦ not_equal (by_deadline m a b) (λ r. e.1 (exact a b r)) ∙ sym e.0
  ]

  in_map : (now : ℕ) (o : Option Heard) → due_in now o && is_some o ≡ due_in now o
  in_map now None = refl
  in_map now (Some h) = and_yes (due_in now (Some h)) where
    and_yes : (b : Bool) → b && true ≡ b
    and_yes true = refl
    and_yes false = refl

  same_keys : (q : ℕ) → list_any (nat_eq q) (fin.keys (in_turn m)) ≡ is_some (fin.get m q)
  same_keys q =
      sym (any_same (eq_by_cmp (by_deadline m) q) (nat_eq q) (tied q) (fin.keys (in_turn m)))
      ∙ sym (fin.contains_key-keys (in_turn m) q)
      ∙ ap is_some (get-from_entries total (fin.entries m) q
      ∙ same_find (by_deadline m) nat_cmp (λ a b. tied a b ∙ sym (unsigned_tied a b)) q (fin.entries m)
      ∙ sym (get-entries m q))

  any_due : (now q : ℕ) → list_any (nat_eq q) (due m now) ≡ due_in now (fin.get m q)
  any_due now q =
      any_kept (λ s. due_in now (fin.get m s)) q (fin.keys (in_turn m))
      ∙ ap (λ b. due_in now (fin.get m q) && b) (same_keys q)
      ∙ in_map now (fin.get m q)

  pub only_list : (now : ℕ) (sessions : List ℕ) → ListsDue m now sessions → sessions ≡ due m now
  only_list now sessions h = one_list (by_deadline m) total exact sessions (due m now) h.sorted
      (IsStrictlySortedBy-filter (by_deadline m) (λ s. due_in now (fin.get m s)) (fin.keys (in_turn m)) (keys_sorted (by_deadline m) (fin.entries (in_turn m)) (fin.entries_sorted (in_turn m))))
      (λ q.
      any_same (eq_by_cmp (by_deadline m) q) (nat_eq q) (tied q) sessions
      ∙ h.members q
      ∙ sym (any_same (eq_by_cmp (by_deadline m) q) (nat_eq q) (tied q) (due m now) ∙ any_due now q))
