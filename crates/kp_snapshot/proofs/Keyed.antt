-- The entries of a finite map, one after the other, by their keys.
use Rattle.std.proofs.Common.{◌≡◌, ℕ, zero, suc, ◌+◌, ◌≤◌, Bool, true, false, cond, T, List, [], ◌∷◌, ◌++◌, length, take, Option, Some, None, slice_get, refl, sym, ap, subst, ◌∙◌}
use Rattle.std.specs.Prelude.{◌&&◌}
use Rattle.std.specs.Option.{option_map}
use Rattle.std.specs.Cmp.{IsTotalOrder}
use Rattle.std.specs.Ordering.{is_lt, is_eq, eq_by_cmp, ordering_reverse}
use Rattle.std.specs.declared.cmp.Ordering.{Ordering}
use Rattle.std.specs.declared.cmp.Ordering.TheVariants.{Less}
use Rattle.std.specs.FinMap as map
use Rattle.std.specs.FinMap.{FinMap, find, is_sorted}
use Rattle.std.specs.FinMap.Entries.{below_all}
use Rattle.std.proofs.lemmas.Cmp.{tied_itself}
use Rattle.std.proofs.lemmas.List.{take_more, take_all, length-map}
use Rattle.std.proofs.lemmas.Option.{slice_get-map, slice_get_within, get_or_from_slice_get}
use Rattle.kp_snapshot.proofs.Tracked.{less_of}

pub first : (a b : Bool) → T (a && b) → T a
first true b h = tt
first false b h = absurd h

pub second : (a b : Bool) → T (a && b) → T b
second true b h = h
second false b h = absurd h

pub from_T : (b : Bool) → T b → b ≡ true
from_T true h = refl
from_T false h = absurd h

module _ {K X : Type 0} {R : K → K → Ordering} (o : IsTotalOrder R) where
  above : (i : ℕ) (es : List (K × X)) (k : K) (e : K × X) → T (below_all R k es) → slice_get es i ≡ Some e → R k e.0 ≡ Less
  above i [] k e below is = absurd (cc is)
  above zero (x ∷ es) k e below is =
      let same : x ≡ e = cc in
      ap (λ (y : K × X). R k y.0) (sym same) ∙ less_of (R k x.0) (from_T (is_lt (R k x.0)) (first (is_lt (R k x.0)) (below_all R k es) below))
  above (suc i) (x ∷ es) k e below is = above i es k e (second (is_lt (R k x.0)) (below_all R k es) below) is

  -- an entry is found by its key
  found_at : (i : ℕ) (es : List (K × X)) (e : K × X) → T (is_sorted R es) → slice_get es i ≡ Some e → find R e.0 es ≡ Some e.1
  found_at i [] e sorted is = absurd (cc is)
  found_at zero (x ∷ es) e sorted is =
      let same : x ≡ e = cc in
      ap (λ (t : Bool). cond t (Some x.1) (find R e.0 es)) (ap (λ (y : K × X). eq_by_cmp R e.0 y.0) same ∙ ap is_eq (tied_itself o e.0)) ∙ ap (λ (y : K × X). Some y.1) same
  found_at (suc i) (x ∷ es) e sorted is =
      let less = above i es x.0 e (first (below_all R x.0 es) (is_sorted R es) sorted) is in
      ap (λ (t : Bool). cond t (Some x.1) (find R e.0 es)) (ap is_eq (o.antisymm e.0 x.0 ∙ ap ordering_reverse less)) ∙ found_at i es e (second (below_all R x.0 es) (is_sorted R es) sorted) is

  entry_of : (ro : Option (K × X)) (k : K) → Some k ≡ option_map (λ (e : K × X). e.0) ro → (x : X) × (ro ≡ Some (k, x))
  entry_of None k e = absurd (cc e)
  entry_of (Some y) k e = let same : k ≡ y.0 = cc in (y.1, λ i. Some (sym same i, y.1))

  -- the entry of the i-th key
  pub at_key : (m : FinMap R X) (i : ℕ) (k : K) → slice_get (map.keys m) i ≡ Some k → (x : X) × (map.get m k ≡ Some x) × (take (i + 1) (map.entries m) ≡ take i (map.entries m) ++ (k, x) ∷ [])
  at_key m i k is =
      let e = entry_of (slice_get (map.entries m) i) k (sym is ∙ slice_get-map (λ (e : K × X). e.0) (map.entries m) i) in
      let here : slice_get (map.entries m) i ≡ Some (k, e.0) = e.1 in
      (e.0, map.get-entries m k ∙ found_at i (map.entries m) (k, e.0) (map.entries_sorted m) here, take_more (map.entries m) i (k, e.0) (slice_get_within (map.entries m) i (k, e.0) here) ∙ ap (λ (y : K × X). take i (map.entries m) ++ y ∷ []) (get_or_from_slice_get (map.entries m) i (k, e.0) (k, e.0) here))

  -- as many entries as there are keys are all of them
  pub keys_taken : (m : FinMap R X) (i : ℕ) (ks : List K) → ks ≡ map.keys m → length ks ≤ i → take i (map.entries m) ≡ map.entries m
  keys_taken m i ks is le = take_all i (map.entries m) (subst (λ (n : ℕ). n ≤ i) (ap (λ (xs : List K). length xs) is ∙ length-map (map.entries m) (λ (e : K × X). e.0)) le)
