-- The sessions that are due, from the deadlines that have come.
use Rattle.std.proofs.Common.{◌≡◌, ℕ, zero, suc, ◌+◌, ◌<◌, ◌⊎◌, inl, inr, Bool, true, false, true≢false, cond, nat_eq, nat_le, List, [], ◌∷◌, slice_get, get_or, Option, Some, None, refl, ap, sym, ◌∙◌, subst, arith}
use Rattle.std.specs.Prelude.{map}
use Rattle.std.proofs.Math.Bool.{◌||◌, or-true}
use Rattle.std.specs.List.{filter, list_any, All, AllByRecursion, IsDistinct}
use Rattle.std.specs.List.Sorted.{IsStrictlySortedBy, IsPermutation, IsSorted}
use Rattle.std.specs.declared.cmp.Ordering.TheVariants.{Less, Equal}
use Rattle.std.specs.Ordering.{is_lt, nat_cmp, ordering_then}
use Rattle.std.specs.Cmp.{IsTotalOrder, nat_cmp_is, nat_eq_equiv}
use Rattle.std.proofs.lemmas.Cmp.{nat_cmp_total, then_total, on_total}
use Rattle.std.specs.FinMap as fin
use Rattle.std.specs.FinMap.{FinMap}
use Rattle.std.specs.Map.{lookup}
use Rattle.std.proofs.lemmas.Option.{same_Some, none-some, slice_get-get_or}
use Rattle.std.proofs.lemmas.Bool.{eqb-true, eqb-false}
use Rattle.std.proofs.lemmas.Bool.Decides.{eqb_tells}
use Rattle.std.proofs.lemmas.List.Sorted.{list_any-IsPermutation, All-permutation}
use Rattle.std.proofs.lemmas.List.Elements.{All-filter, recursion_from_All}
use Rattle.std.proofs.lemmas.Map.Keys.{IsDistinct-IsPermutation, IsDistinct-from_apart, apart_from_distinct, sorted_from_all_adjacent}
use Rattle.kp_expiry.specs.declared.heard.Heard.{Heard}
use Rattle.kp_expiry.specs.declared.expiry.Known.{Known}
use Rattle.kp_expiry.specs.Deadline.{deadline}
use Rattle.kp_expiry.specs.Walk.{has_come}
use Rattle.kp_expiry.specs.Due.{pair_cmp, deadline_in, due_in, by_deadline, ListsDue}
use Rattle.kp_expiry.specs.Index.{heard_in, node_in, base_of, IsIndex}
use Rattle.kp_expiry.proofs.Mended.{le_or}
use Rattle.kp_expiry.proofs.Indexed.{get-base_of, one_node}

-- ---- members of a filtered list
any_map : (f : ℕ → Bool) (ys : List (ℕ × ℕ)) → list_any f (map (λ (p : ℕ × ℕ). p.1) ys) ≡ list_any (λ (p : ℕ × ℕ). f p.1) ys
any_map f [] = refl
any_map f (y ∷ ys) = ap (λ b. f y.1 || b) (any_map f ys)

module _ {X : Type 0} (f p : X → Bool) where
  any_none : (ts : List X) → ((i : ℕ) (t : X) → slice_get ts i ≡ Some t → f t ≡ true → p t ≡ false) → list_any f (filter p ts) ≡ false
  any_none [] h = refl
  any_none (t ∷ ts) h = step (p t) (f t) (h 0 t refl) (any_none ts (λ i u e. h (suc i) u e)) refl where
    step : (b c : Bool) → (c ≡ true → b ≡ false) → list_any f (filter p ts) ≡ false → f t ≡ c → list_any f (cond b (t ∷ filter p ts) (filter p ts)) ≡ false
    step true true h r e = absurd (true≢false (h refl))
    step true false h r e = ap (λ x. x || list_any f (filter p ts)) e ∙ r
    step false c h r e = r

  any_some : (ts : List X) (i : ℕ) (t : X) → slice_get ts i ≡ Some t → f t ≡ true → p t ≡ true → list_any f (filter p ts) ≡ true
  any_some [] i t e ft pt = absurd (none-some t e)
  any_some (u ∷ ts) zero t e ft pt =
      let same : u ≡ t = same_Some u t e in
      ap (λ b. list_any f (cond b (u ∷ filter p ts) (filter p ts))) (ap p same ∙ pt) ∙ ap (λ b. b || list_any f (filter p ts)) (ap f same ∙ ft)
  any_some (u ∷ ts) (suc i) t e ft pt = step (p u) (any_some ts i t e ft pt) where
    step : (b : Bool) → list_any f (filter p ts) ≡ true → list_any f (cond b (u ∷ filter p ts) (filter p ts)) ≡ true
    step true h = ap (λ x. f u || x) h ∙ or-true (f u)
    step false h = h

all-filter : {K : Type 0} (P : K → Type 0) (p : K → Bool) (xs : List K) → AllByRecursion P xs → AllByRecursion P (filter p xs)
all-filter P p [] h = tt
all-filter P p (x ∷ xs) h = elim (p x) as (λ b. AllByRecursion P (cond b (x ∷ filter p xs) (filter p xs))) [ true ↦ (h.0, all-filter P p xs h.1) | false ↦ all-filter P p xs h.1 ]

distinct-filter : {K : Type 0} (e : K → K → Bool) (p : K → Bool) (xs : List K) → IsDistinct e xs → IsDistinct e (filter p xs)
unfolding IsDistinct
distinct-filter e p [] h = tt
distinct-filter e p (x ∷ xs) h = elim (p x) as (λ b. IsDistinct e (cond b (x ∷ filter p xs) (filter p xs))) [ true ↦ (all-filter (λ y. e x y ≡ false) p xs h.0, distinct-filter e p xs h.1) | false ↦ distinct-filter e p xs h.1 ]

-- ---- the order of pairs
abbrev same_session : ℕ × ℕ → ℕ × ℕ → Bool
same_session x y = nat_eq x.1 y.1

pub pair_total : IsTotalOrder pair_cmp
pair_total = then_total (on_total (λ (x : ℕ × ℕ). x.0) nat_cmp_total) (on_total (λ (x : ℕ × ℕ). x.1) nat_cmp_total)

three : (a b : ℕ) → (a < b) ⊎ ((a ≡ b) ⊎ (b < a))
three a b = elim (le_or a b) [ inl h ↦ inl h | inr h ↦ elim (le_or b a) [ inl k ↦ inr (inr k) | inr k ↦ inr (inl (omega arith)) ] ]

pair_less : (x y : ℕ × ℕ) → is_lt (pair_cmp y x) ≡ false → same_session x y ≡ false → pair_cmp x y ≡ Less
pair_less x y sorted apart = elim (three x.0 y.0) [
  | inl h ↦ ap (λ o. ordering_then o (nat_cmp x.1 y.1)) (sym (nat_cmp_is x.0 y.0 Less h))
  | inr r ↦ elim r [
    | inl h ↦ elim (three x.1 y.1) [
      | inl k ↦ ap (λ o. ordering_then o (nat_cmp x.1 y.1)) (sym (nat_cmp_is x.0 y.0 Equal h)) ∙ sym (nat_cmp_is x.1 y.1 Less k)
      | inr s ↦ elim s [
        | inl k ↦ absurd (eqb-false x.1 y.1 apart k)
        | inr k ↦ absurd (true≢false (sym (ap is_lt (ap (λ o. ordering_then o (nat_cmp y.1 x.1)) (sym (nat_cmp_is y.0 x.0 Equal (sym h))) ∙ sym (nat_cmp_is y.1 x.1 Less k))) ∙ sorted))
      ]
    ]
    | inr h ↦ absurd (true≢false (sym (ap is_lt (ap (λ o. ordering_then o (nat_cmp y.1 x.1)) (sym (nat_cmp_is y.0 x.0 Less h)))) ∙ sorted))
  ]
]

strict : (ys : List (ℕ × ℕ)) → IsSorted pair_cmp ys → IsDistinct same_session ys → IsStrictlySortedBy pair_cmp ys
strict ys sorted apart = sorted_from_all_adjacent pair_total ys (0, 0) (λ k l.
    pair_less (get_or ys k (0, 0)) (get_or ys (k + 1) (0, 0)) (sorted k (0, 0) (omega arith) l) (apart_from_distinct same_session ys k (k + 1) (0, 0) apart (omega arith) l))

-- ---- pairs whose deadline is that of the session
module _ (m : FinMap nat_cmp Heard) where
  heads : (y : ℕ × ℕ) (ys : List (ℕ × ℕ)) → deadline_in (fin.get m y.1) ≡ y.0 → AllByRecursion (λ (t : ℕ × ℕ). deadline_in (fin.get m t.1) ≡ t.0) ys → AllByRecursion (λ z. pair_cmp y z ≡ Less) ys → AllByRecursion (λ b. by_deadline m y.1 b ≡ Less) (map (λ (p : ℕ × ℕ). p.1) ys)
  heads y [] mine all less = tt
  heads y (z ∷ zs) mine all less = ((λ i. pair_cmp (mine i, y.1) (all.0 i, z.1)) ∙ less.0, heads y zs mine all.1 less.1)

  renamed : (ys : List (ℕ × ℕ)) → AllByRecursion (λ (t : ℕ × ℕ). deadline_in (fin.get m t.1) ≡ t.0) ys → IsStrictlySortedBy pair_cmp ys → IsStrictlySortedBy (by_deadline m) (map (λ (p : ℕ × ℕ). p.1) ys)
  unfolding IsStrictlySortedBy
  renamed [] all sorted = tt
  renamed (y ∷ ys) all sorted = (heads y ys all.0 all.1 sorted.0, renamed ys all.1 sorted.1)

module _ (known : List (ℕ × Known)) (ts : List (ℕ × ℕ)) (h : IsIndex known ts) (now : ℕ) where
  -- the pair of a node is that of its session
  its_pair : (i : ℕ) (t : ℕ × ℕ) → slice_get ts i ≡ Some t → deadline_in (heard_in (lookup (nat_eq t.1) known)) ≡ t.0
  its_pair i t e = pair_of (lookup (nat_eq t.1) known) refl where
    pair_of : (o : Option Known) → lookup (nat_eq t.1) known ≡ o → deadline_in (heard_in o) ≡ t.0
    pair_of None is = absurd (none-some i (sym (ap node_in is) ∙ h.back i t e))
    pair_of (Some c) is =
        let node : c.node ≡ i = same_Some c.node i (sym (ap node_in is) ∙ h.back i t e) in
        ap (λ (x : ℕ × ℕ). x.0) (same_Some (deadline c.heard, t.1) t (sym (h.there t.1 c is) ∙ ap (slice_get ts) node ∙ e))

  any_come : (s : ℕ) → list_any (λ (t : ℕ × ℕ). nat_eq s t.1) (filter (has_come now) ts) ≡ due_in now (heard_in (lookup (nat_eq s) known))
  any_come s = any_of (lookup (nat_eq s) known) refl where
    any_of : (o : Option Known) → lookup (nat_eq s) known ≡ o → list_any (λ (t : ℕ × ℕ). nat_eq s t.1) (filter (has_come now) ts) ≡ due_in now (heard_in o)
    any_of None is = any_none (λ (t : ℕ × ℕ). nat_eq s t.1) (has_come now) ts (λ i t e f. absurd (none-some i (sym (ap node_in is) ∙ ap (λ q. node_in (lookup (nat_eq q) known)) (eqb-true s t.1 f) ∙ h.back i t e)))
    any_of (Some c) is = decided (nat_le (deadline c.heard) now) refl where
      decided : (b : Bool) → nat_le (deadline c.heard) now ≡ b → list_any (λ (t : ℕ × ℕ). nat_eq s t.1) (filter (has_come now) ts) ≡ nat_le (deadline c.heard) now
      decided true come = any_some (λ (t : ℕ × ℕ). nat_eq s t.1) (has_come now) ts c.node (deadline c.heard, s) (h.there s c is) (nat_eq_equiv.refl s) come ∙ sym come
      decided false late =
          any_none (λ (t : ℕ × ℕ). nat_eq s t.1) (has_come now) ts (λ i t e f.
          let q : s ≡ t.1 = eqb-true s t.1 f in
          let node : i ≡ c.node = one_node known ts h s i c.node t.0 (deadline c.heard) (e ∙ ap (λ x. Some (t.0, x)) (sym q)) (h.there s c is) in
          ap (has_come now) (same_Some t (deadline c.heard, s) (sym e ∙ ap (slice_get ts) node ∙ h.there s c is)) ∙ late)
          ∙ sym late

  sessions_apart : IsDistinct same_session ts
  sessions_apart = IsDistinct-from_apart same_session ts (λ i j d l k. elim (eqb_tells (get_or ts i d).1 (get_or ts j d).1) [
    | inl p ↦
        let same : i ≡ j = one_node known ts h (get_or ts j d).1 i j (get_or ts i d).0 (get_or ts j d).0
        (slice_get-get_or ts i d (omega arith) ∙ ap (λ x. Some ((get_or ts i d).0, x)) p.1)
        (slice_get-get_or ts j d k) in
        absurd (omega arith)
    | inr p ↦ p.0
  ])

  pub lists_due : (m : FinMap nat_cmp Heard) (ys : List (ℕ × ℕ)) (sessions : List ℕ) → base_of known ≡ m → IsPermutation (filter (has_come now) ts) ys → IsSorted pair_cmp ys → sessions ≡ map (λ (p : ℕ × ℕ). p.1) ys → ListsDue m now sessions
  lists_due m ys sessions is moved sorted e =
      let all : All (λ (t : ℕ × ℕ). deadline_in (fin.get m t.1) ≡ t.0) ts =
      λ k d l. ap (λ n. deadline_in (fin.get n (get_or ts k d).1)) (sym is) ∙ ap deadline_in (get-base_of known (get_or ts k d).1) ∙ its_pair k (get_or ts k d) (slice_get-get_or ts k d l) in
      let apart : IsDistinct same_session ys = IsDistinct-IsPermutation same_session (λ x y. nat_eq_equiv.symm x.1 y.1) (filter (has_come now) ts) ys moved (distinct-filter same_session (has_come now) ts sessions_apart) in
      record {
        members = λ s.
            ap (list_any (nat_eq s)) e ∙ any_map (nat_eq s) ys
            ∙ sym (list_any-IsPermutation (λ (t : ℕ × ℕ). nat_eq s t.1) (filter (has_come now) ts) ys moved)
            ∙ any_come s
            ∙ ap (due_in now) (sym (get-base_of known s) ∙ ap (λ n. fin.get n s) is);
        sorted = subst (IsStrictlySortedBy (by_deadline m)) (sym e)
            (renamed m ys
            (recursion_from_All (λ (t : ℕ × ℕ). deadline_in (fin.get m t.1) ≡ t.0) ys (All-permutation (λ (t : ℕ × ℕ). deadline_in (fin.get m t.1) ≡ t.0) (filter (has_come now) ts) ys moved (All-filter (has_come now) (λ (t : ℕ × ℕ). deadline_in (fin.get m t.1) ≡ t.0) ts all)))
            (strict ys sorted apart));
      }
