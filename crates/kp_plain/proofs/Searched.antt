-- Where a binary search among entries in the order of their keys ends.
use Rattle.std.proofs.Common.{◌≡◌, ℕ, zero, suc, ◌<◌, ◌≤◌, cond, List, [], ◌∷◌, length, set, get_or, Some, None, Result, Ok, Err, T, refl, ap, sym, subst, ◌∙◌, arith}
use Rattle.std.specs.Prelude.{IsTrue}
use Rattle.std.specs.List.{insert}
use Rattle.std.specs.List.Sorted.{IsBinarySearchResult, IsSearchInRange, IsNonDecreasingBy}
use Rattle.std.specs.declared.cmp.Ordering.{Ordering}
use Rattle.std.specs.declared.cmp.Ordering.TheVariants.{Less, Equal, Greater}
use Rattle.std.specs.Ordering.{is_eq, ordering_index, ordering_reverse}
use Rattle.std.specs.Cmp.{IsTotalOrder}
use Rattle.std.specs.FinMap.{find, put, is_sorted}
use Rattle.std.specs.FinMap.Entries.{by_order, below_all}
use Rattle.kp_layers.proofs.Listed.{first, second, less}
use Rattle.std.proofs.lemmas.List.{get_or_default}
use Rattle.kp_plain.specs.Place.{StandsFor, place_in}
use Rattle.kp_plain.specs.declared.sorted.Place.TheVariants.{At}

module _ {K : Type 0} {R : K → K → Ordering} (o : IsTotalOrder R) (k : K) where
  above : (x : K) → R x k ≡ Less → R k x ≡ Greater
  above x h = o.antisymm k x ∙ ap ordering_reverse h

  same : (x : K) → R x k ≡ Equal → R k x ≡ Equal
  same x h = o.antisymm k x ∙ ap ordering_reverse h

  beneath : (x : K) → R x k ≡ Greater → R k x ≡ Less
  beneath x h = o.antisymm k x ∙ ap ordering_reverse h

  -- a key before one that is the searched one, or is below it, is below it
  before_same : (a b : K) → R a b ≡ Less → R b k ≡ Equal → R a k ≡ Less
  before_same a b h e = o.antisymm a k ∙ ap ordering_reverse (sym (o.congr b k a e) ∙ o.antisymm b a ∙ ap ordering_reverse h)

  rise : (a b : K) → R a b ≡ Less → ordering_index (R a k) ≤ ordering_index (R b k)
  rise a b h = cases (R b k) refl where
    cases : (r : Ordering) → R b k ≡ r → ordering_index (R a k) ≤ ordering_index r
    cases Less e = subst (λ x. ordering_index x ≤ 0) (sym (o.trans a b k h e)) (omega arith)
    cases Equal e = subst (λ x. ordering_index x ≤ 1) (sym (before_same a b h e)) (omega arith)
    cases Greater e = most (R a k) where
      most : (x : Ordering) → ordering_index x ≤ 2
      most Less = omega arith
      most Equal = omega arith
      most Greater = omega arith

  module _ {V : Type 0} where
    abbrev rank : K × V → Ordering
    rank e = R e.0 k

    below_at : (x : K) (es : List (K × V)) (i : ℕ) (d : K × V) → T (below_all R x es) → i < length es → R x (get_or es i d).0 ≡ Less
    below_at x [] i d h lt = absurd (omega (arith, lt))
    below_at x (e ∷ es) zero d h lt = less _ (first _ _ h)
    below_at x (e ∷ es) (suc i) d h lt = below_at x es i d (second _ _ h) (omega (arith, lt))

    rises : (es : List (K × V)) → T (is_sorted R es) → IsNonDecreasingBy (λ e. ordering_index (rank e)) es
    rises [] h i j d le lt = absurd (omega (arith, lt))
    rises (e ∷ es) h zero zero d le lt = omega arith
    rises (e ∷ es) h zero (suc j) d le lt = rise e.0 (get_or es j d).0 (below_at e.0 es j d (first _ _ h) (omega (arith, lt)))
    rises (e ∷ es) h (suc i) zero d le lt = absurd (omega (arith, le))
    rises (e ∷ es) h (suc i) (suc j) d le lt = rises es (second _ _ h) i j d (omega (arith, le)) (omega (arith, lt))

    -- the key is there
    put_at : (v : V) (es : List (K × V)) (i : ℕ) → T (is_sorted R es) → i < length es → R (get_or es i (k, v)).0 k ≡ Equal → put R k v es ≡ set es i ((get_or es i (k, v)).0, v)
    put_at v [] i h lt e = absurd (omega (arith, lt))
    put_at v (x ∷ es) zero h lt e = ap (λ r. by_order r ((k, v) ∷ x ∷ es) ((x.0, v) ∷ es) (x ∷ put R k v es)) (same x.0 e)
    put_at v (x ∷ es) (suc i) h lt e =
        ap (λ r. by_order r ((k, v) ∷ x ∷ es) ((x.0, v) ∷ es) (x ∷ put R k v es)) (above x.0 (before_same x.0 (get_or es i (k, v)).0 (below_at x.0 es i (k, v) (first _ _ h) (omega (arith, lt))) e))
        ∙ ap (◌∷◌ x) (put_at v es i (second _ _ h) (omega (arith, lt)) e)

    find_at : (v : V) (es : List (K × V)) (i : ℕ) → T (is_sorted R es) → i < length es → R (get_or es i (k, v)).0 k ≡ Equal → find R k es ≡ Some (get_or es i (k, v)).1
    find_at v [] i h lt e = absurd (omega (arith, lt))
    find_at v (x ∷ es) zero h lt e = ap (λ r. cond (is_eq r) (Some x.1) (find R k es)) (same x.0 e)
    find_at v (x ∷ es) (suc i) h lt e =
        ap (λ r. cond (is_eq r) (Some x.1) (find R k es)) (above x.0 (before_same x.0 (get_or es i (k, v)).0 (below_at x.0 es i (k, v) (first _ _ h) (omega (arith, lt))) e))
        ∙ find_at v es i (second _ _ h) (omega (arith, lt)) e

    -- the key is not there, and would come here
    abbrev Parts : List (K × V) → ℕ → Type 0
    Parts es i = ((j : ℕ) (d : K × V) → j < i → R (get_or es j d).0 k ≡ Less) × ((j : ℕ) (d : K × V) → i ≤ j → j < length es → R (get_or es j d).0 k ≡ Greater)

    put_before : (v : V) (es : List (K × V)) (i : ℕ) → i ≤ length es → Parts es i → put R k v es ≡ insert es i (k, v)
    put_before v [] zero le h = refl
    put_before v [] (suc i) le h = absurd (omega (arith, le))
    put_before v (x ∷ es) zero le h = ap (λ r. by_order r ((k, v) ∷ x ∷ es) ((x.0, v) ∷ es) (x ∷ put R k v es)) (beneath x.0 (h.1 zero x (omega arith) (omega arith)))
    put_before v (x ∷ es) (suc i) le h =
        ap (λ r. by_order r ((k, v) ∷ x ∷ es) ((x.0, v) ∷ es) (x ∷ put R k v es)) (above x.0 (h.0 zero x (omega arith)))
        ∙ ap (◌∷◌ x) (put_before v es i (omega (arith, le)) ((λ j d lt. h.0 (suc j) d (omega (arith, lt))), (λ j d from lt. h.1 (suc j) d (omega (arith, from)) (omega (arith, lt)))))

    find_before : (es : List (K × V)) (i : ℕ) → i ≤ length es → Parts es i → find R k es ≡ None
    find_before [] i le h = refl
    find_before (x ∷ es) zero le h = ap (λ r. cond (is_eq r) (Some x.1) (find R k es)) (beneath x.0 (h.1 zero x (omega arith) (omega arith))) ∙ find_before es zero (omega arith) ((λ j d lt. absurd (omega (arith, lt))), (λ j d from lt. h.1 (suc j) d (omega arith) (omega (arith, lt))))
    find_before (x ∷ es) (suc i) le h = ap (λ r. cond (is_eq r) (Some x.1) (find R k es)) (above x.0 (h.0 zero x (omega arith))) ∙ find_before es i (omega (arith, le)) ((λ j d lt. h.0 (suc j) d (omega (arith, lt))), (λ j d from lt. h.1 (suc j) d (omega (arith, from)) (omega (arith, lt))))

    -- where the search ends, the key is, or goes
    pub searched : (es : List (K × V)) (r : Result ℕ ℕ) → IsTrue (is_sorted R es) → IsSearchInRange r (length es) → IsBinarySearchResult rank es r → StandsFor R k es (place_in r)
    searched es (Ok i) sorted in_range at =
        let h : T (is_sorted R es) = subst T (sym sorted) tt in
        (in_range, (λ v. put_at v es i h in_range (at (k, v))), (λ v. find_at v es i h in_range (at (k, v))))
    searched es (Err i) sorted in_range parted =
        let h : T (is_sorted R es) = subst T (sym sorted) tt in
        let two = parted (rises es h) in
        let parts : Parts es i = ((λ j d lt. two.0 j d (omega arith) lt), (λ j d from lt. two.1 j d from lt)) in
        (in_range, (λ v. put_before v es i in_range parts), find_before es i in_range parts, (λ j d lt. above (get_or es j d).0 (parts.0 j d lt)))

    -- the value that stands there
    pub found_here : (es : List (K × V)) (i : ℕ) (d : K × V) → StandsFor R k es (At i) → Some (get_or es i d).1 ≡ find R k es
    found_here es i d h = ap (λ (e : K × V). Some e.1) (get_or_default es i d (k, d.1) h.0) ∙ sym (h.2 d.1)
