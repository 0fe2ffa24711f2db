-- Numbers in their order: two lists of the same ones are the same.
use Rattle.std.proofs.Common.{◌≡◌, ℕ, Bool, true, false, cond, nat_eq, ◌&&◌, ◌||◌, List, [], ◌∷◌, Option, Some, None, refl, ap, sym, subst, ◌∙◌}
use Rattle.std.specs.Prelude.{map, T}
use Rattle.std.specs.List.{list_any, AllByRecursion, IsDistinct}
use Rattle.std.specs.List.Sorted.{IsStrictlySortedBy, IsPermutation, IsSorted}
use Rattle.std.specs.declared.cmp.Ordering.TheVariants.{Less}
use Rattle.std.specs.Ordering.{eq_by_cmp, is_lt, nat_cmp}
use Rattle.std.specs.Cmp.{nat_cmp_total, nat_eq_equiv, unsigned_tied}
use Rattle.std.specs.Map.{lookup}
use Rattle.std.specs.BTreeMap.{is_at}
use Rattle.std.specs.FinMap.{find, is_sorted, nat_cmp-IsAntisymmetric}
use Rattle.std.specs.FinMap.Entries.{below_all, same_entries}
use Rattle.std.proofs.lemmas.List.Sorted.{list_any-IsPermutation, IsNonDecreasingBy-from_sort}
use Rattle.std.proofs.lemmas.Map.Keys.{IsDistinct-IsPermutation, IsStrictlyIncreasing-from_distinct, sorted_from_strictly_increasing}
use Rattle.kp_watch.specs.Numbered.{Lists}

both : (a b : Bool) → T a → T b → T (a && b)
both true b h g = g
both false b h g = h

-- the same test on both sides
pub any_same : {K : Type 0} (f g : K → Bool) → ((x : K) → f x ≡ g x) → (xs : List K) → list_any f xs ≡ list_any g xs
any_same f g h [] = refl
any_same f g h (x ∷ xs) = λ i. h x i || any_same f g h xs i

-- a sort of numbers that differ
pub sorted_lists : (xs ys : List ℕ) → IsPermutation xs ys → IsSorted nat_cmp ys → IsDistinct nat_eq xs → Lists xs ys
sorted_lists xs ys moved sorted apart = record {
  sorted = sorted_from_strictly_increasing ys (IsStrictlyIncreasing-from_distinct ys (IsNonDecreasingBy-from_sort (λ x. x) ys sorted) (IsDistinct-IsPermutation nat_eq nat_eq_equiv.symm xs ys moved apart));
  members = λ q. sym (list_any-IsPermutation (nat_eq q) xs ys moved);
}

module _ {X : Type 0} where
  below : (k : ℕ) (es : List (ℕ × X)) → AllByRecursion (λ y. nat_cmp k y ≡ Less) (map (λ (e : ℕ × X). e.0) es) → T (below_all nat_cmp k es)
  below k [] h = tt
  below k (e ∷ es) h = both _ _ (subst (λ r. T (is_lt r)) (sym h.0) tt) (below k es h.1)

  sorted : (es : List (ℕ × X)) → IsStrictlySortedBy nat_cmp (map (λ (e : ℕ × X). e.0) es) → T (is_sorted nat_cmp es)
  unfolding IsStrictlySortedBy
  sorted [] h = tt
  sorted (e ∷ es) h = both _ _ (below e.0 es h.0) (sorted es h.1)

  found : (q : ℕ) (es : List (ℕ × X)) → find nat_cmp q es ≡ lookup (is_at (nat_cmp q)) es
  found q [] = refl
  found q (e ∷ es) = ap (cond (eq_by_cmp nat_cmp q e.0) (Some e.1)) (found q es)

  -- two lists in order in which each number finds the same are the same
  pub same_list : (es fs : List (ℕ × X)) → IsStrictlySortedBy nat_cmp (map (λ (e : ℕ × X). e.0) es) → IsStrictlySortedBy nat_cmp (map (λ (e : ℕ × X). e.0) fs) → ((q : ℕ) → lookup (is_at (nat_cmp q)) es ≡ lookup (is_at (nat_cmp q)) fs) → es ≡ fs
  same_list es fs a b h = same_entries nat_cmp nat_cmp_total nat_cmp-IsAntisymmetric es fs (sorted es a) (sorted fs b) (λ q. found q es ∙ h q ∙ sym (found q fs))

abbrev marks : List ℕ → List (ℕ × Unit {0})
marks [] = []
marks (k ∷ ks) = (k, tt {0}) ∷ marks ks

keys-marks : (ks : List ℕ) → map (λ (e : ℕ × Unit {0}). e.0) (marks ks) ≡ ks
keys-marks [] = refl
keys-marks (k ∷ ks) = ap (◌∷◌ k) (keys-marks ks)

marked : (b : Bool) (r : Option (Unit {0})) (c : Bool) → r ≡ cond c (Some (tt {0})) None → cond b (Some (tt {0})) r ≡ cond (b || c) (Some (tt {0})) None
marked true r c h = refl
marked false r c h = h

look-marks : (q : ℕ) (ks : List ℕ) → lookup (is_at (nat_cmp q)) (marks ks) ≡ cond (list_any (nat_eq q) ks) (Some (tt {0})) None
look-marks q [] = refl
look-marks q (k ∷ ks) = ap (λ b. cond b (Some (tt {0})) (lookup (is_at (nat_cmp q)) (marks ks))) (unsigned_tied q k) ∙ marked (nat_eq q k) _ (list_any (nat_eq q) ks) (look-marks q ks)

-- two lists of the same numbers in order are the same
pub same_numbers : (xs ys : List ℕ) → IsStrictlySortedBy nat_cmp xs → IsStrictlySortedBy nat_cmp ys → ((q : ℕ) → list_any (nat_eq q) xs ≡ list_any (nat_eq q) ys) → xs ≡ ys
same_numbers xs ys a b h =
    sym (keys-marks xs)
    ∙ ap (map (λ (e : ℕ × Unit {0}). e.0)) (same_list (marks xs) (marks ys) (subst (IsStrictlySortedBy nat_cmp) (sym (keys-marks xs)) a) (subst (IsStrictlySortedBy nat_cmp) (sym (keys-marks ys)) b)
    (λ q. look-marks q xs ∙ ap (λ b. cond b (Some (tt {0})) None) (h q) ∙ sym (look-marks q ys)))
    ∙ keys-marks ys
