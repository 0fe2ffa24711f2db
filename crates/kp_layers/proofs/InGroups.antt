-- The keys of a group are among those that the index has of it.
use Rattle.std.proofs.Common.{◌≡◌, ℕ, zero, suc, ◌+◌, ◌<◌, Bool, true, false, cond, List, [], ◌∷◌, Option, Some, None, is_some, refl, ap, sym, ◌∙◌, arith}
use Rattle.std.specs.Prelude.{map}
use Rattle.std.specs.List.{filter, list_any}
use Rattle.std.specs.List.Sorted.{IsStrictlySortedBy}
use Rattle.std.specs.Ordering.{nat_cmp, eq_by_cmp}
use Rattle.std.specs.Cmp.{nat_cmp_total}
use Rattle.std.specs.Map.{lookup}
use Rattle.std.specs.BTreeMap as tree
use Rattle.std.specs.BTreeMap.{BTreeMap}
use Rattle.std.specs.FinMap as fin
use Rattle.std.specs.FinMap.{nat_cmp-IsAntisymmetric}
use Rattle.std.proofs.Math.Bool.{◌||◌}
use Rattle.kp_layers.specs.declared.cells.Cell.{Cell}
use Rattle.kp_layers.specs.declared.history.Level.{Level}
use Rattle.kp_layers.specs.declared.history.Level.TheVariants.{Committed, Latest}
use Rattle.kp_layers.specs.declared.history.Write.{Write}
use Rattle.kp_layers.specs.Overlay.{Past}
use Rattle.kp_layers.specs.Chains.{shown, base_of}
use Rattle.kp_layers.specs.Listed.{at_level}
use Rattle.kp_layers.specs.Grouped.{positive, one, read, is_of, is_in, times, HasIndex}
use Rattle.kp_layers.proofs.Chained.{get-base_of}
use Rattle.kp_layers.proofs.Counted.{counted_value, one-true}
use Rattle.kp_layers.proofs.Listed.{filtered_listed}

-- the keys that have a count
abbrev pub keys_in : Option (BTreeMap ℕ ℕ) → List ℕ
keys_in None = []
keys_in (Some m) = tree.keys m

-- they stand in their order
abbrev pub AreOrdered : Option (BTreeMap ℕ ℕ) → Type 0
AreOrdered r = IsStrictlySortedBy nat_cmp (keys_in r)

pub none_ordered : AreOrdered None
unfolding IsStrictlySortedBy
none_ordered = tt

positive_some : (n : ℕ) → 0 < n → is_some (positive n) ≡ true
positive_some zero h = absurd (omega arith)
positive_some (suc n) h = refl

entry_there : (q : ℕ) (es : List (ℕ × ℕ)) → is_some (lookup (tree.is_at (nat_cmp q)) es) ≡ list_any (eq_by_cmp nat_cmp q) (map (λ e. e.0) es)
entry_there q [] = refl
entry_there q (e ∷ es) = elim (eq_by_cmp nat_cmp q e.0) as (λ b. is_some (cond b (Some e.1) (lookup (tree.is_at (nat_cmp q)) es)) ≡ (b || list_any (eq_by_cmp nat_cmp q) (map (λ e. e.0) es))) [ true ↦ refl | false ↦ entry_there q es ]

count_there : (q : ℕ) (r : Option (BTreeMap ℕ ℕ)) → is_some (read r q) ≡ list_any (eq_by_cmp nat_cmp q) (keys_in r)
count_there q None = refl
count_there q (Some m) = entry_there q m.entries

module _ {G V : Type 0} (eq : G → G → Bool) (of : V → Option G) where
  of_some : (g : G) (o : Option V) → is_of eq of g o ≡ true → is_some o ≡ true
  of_some g (Some v) e = refl
  of_some g None e = e

  value_counted : (level : Level) (cells : List (ℕ × Cell V)) (log : List (Write V)) (g : G) (q : ℕ) → is_in eq of (at_level level (record { base = base_of cells; writes = shown log })) g q ≡ true → 0 < one (is_of eq of g (fin.get (base_of cells) q)) + times eq of g q log
  value_counted Committed cells log g q e = let h : 0 < one (is_of eq of g (fin.get (base_of cells) q)) = one-true _ e in omega arith
  value_counted Latest cells log g q e = counted_value eq of (base_of cells) log g q e

  -- those of the keys of the map that have a value of the group are among those with a count
  pub listed_in : (level : Level) (groups : List (G × BTreeMap ℕ ℕ)) (cells : List (ℕ × Cell V)) (log : List (Write V)) (g : G) (x : Past V) → record { base = base_of cells; writes = shown log } ≡ x → HasIndex eq of groups cells log → (r : Option (BTreeMap ℕ ℕ)) → r ≡ lookup (eq g) groups → AreOrdered r → filter (is_in eq of (at_level level x) g) (keys_in r) ≡ filter (is_in eq of (at_level level x) g) (fin.keys (at_level level x))
  listed_in level groups cells log g x is h r at ordered =
      let past : Past V = record { base = base_of cells; writes = shown log } in
      filtered_listed nat_cmp nat_cmp_total nat_cmp-IsAntisymmetric (at_level level x) (is_in eq of (at_level level x) g) (keys_in r) ordered
      (λ q e. of_some g (fin.get (at_level level x) q) e)
      (λ q e.
      let here : is_in eq of (at_level level past) g q ≡ true = ap (λ p. is_in eq of (at_level level p) g q) is ∙ e in
      sym (count_there q r)
      ∙ ap (λ o. is_some (read o q)) at
      ∙ ap is_some (h.counted g q)
      ∙ ap (λ o. is_some (positive (one (is_of eq of g o) + times eq of g q log))) (sym (get-base_of cells q))
      ∙ positive_some _ (value_counted level cells log g q here))

abbrev is_filled : {A : Type 0} → List A → Bool
is_filled [] = false
is_filled (x ∷ xs) = true

any_filtered : {K : Type 0} (p : K → Bool) (xs : List K) → list_any p xs ≡ is_filled (filter p xs)
any_filtered p [] = refl
any_filtered p (x ∷ xs) = elim (p x) as (λ b. (b || list_any p xs) ≡ is_filled (cond b (x ∷ filter p xs) (filter p xs))) [ true ↦ refl | false ↦ any_filtered p xs ]

-- where the same keys pass a test, one passes in both
pub any_in_both : {K : Type 0} (p : K → Bool) (xs ys : List K) → filter p xs ≡ filter p ys → list_any p xs ≡ list_any p ys
any_in_both p xs ys same = any_filtered p xs ∙ ap is_filled same ∙ sym (any_filtered p ys)
