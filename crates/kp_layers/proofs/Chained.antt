-- The chains of a `History` under one write more or less.
use Rattle.std.proofs.Common.{◌≡◌, ℕ, zero, suc, ◌+◌, ◌-◌, ◌≤◌, ◌<◌, ◌^◌, ◌⊎◌, inl, inr, Bool, true, false, cond, nat_eq, List, [], ◌∷◌, ◌++◌, length, take, get_or, Option, Some, None, IsSome, refl, ap, sym, ◌∙◌, subst, arith, length-append, append_assoc}
use Rattle.std.specs.Ordering.{nat_cmp}
use Rattle.std.specs.Cmp.{nat_eq_equiv}
use Rattle.std.specs.Map.{lookup}
use Rattle.std.specs.FinMap.{FinMap, get, get-empty}
use Rattle.std.proofs.lemmas.Grind.{common_steps}
use Rattle.std.proofs.lemmas.List.{map-append}
use Rattle.std.proofs.lemmas.Bool.{eqb-true, lt-ltb, le-ltb}
use Rattle.std.proofs.Math.Bool.{◌||◌, or-true}
use Rattle.std.proofs.Math.Dec.{ltb}
use Rattle.kp_layers.specs.declared.cells.Cell.{Cell}
use Rattle.kp_layers.specs.declared.history.Write.{Write}
use Rattle.kp_layers.specs.Overlay.{put, overlay, Past}
use Rattle.kp_layers.specs.Chains.{place, place_before, shown, base_of, committed_in, newest_in, holds, HasChains, ChangesNewest, Renumbers, Commits}
use Rattle.kp_layers.proofs.Overlaid.{get-put, get-overlay, same, written, later}
use Rattle.std.specs.Prelude.{unwrap_or, is_some}

under_suc : (b : Bool) (n m : ℕ) → place_before b n - 1 ≡ n
under_suc true zero m = refl
under_suc false zero m = refl
under_suc b (suc n) m = omega arith

push_last : (s t : Bool) (n p : ℕ) → place_before s (cond t (suc n) p) ≡ cond t (suc (suc n)) (place_before s p)
push_last s true n p = refl
push_last s false n p = refl

-- a last element and a cut: the cut is at the end, or in front of it
pub cut_at_end : {A : Type 0} (xs before after : List A) (x y : A) → xs ++ x ∷ [] ≡ before ++ y ∷ after → ((before ≡ xs) × (y ≡ x)) ⊎ ((rest : List A) × (xs ≡ before ++ y ∷ rest))
cut_at_end [] [] after x y e = inl (refl, (cc))
cut_at_end [] (b ∷ []) after x y e = (cc)
cut_at_end [] (b ∷ (b' ∷ bs)) after x y e = (cc)
cut_at_end (z ∷ zs) [] after x y e = inr (zs, (cc))
cut_at_end (z ∷ zs) (b ∷ before) after x y e =
    let here : z ≡ b = cc in
    let tail : zs ++ x ∷ [] ≡ before ++ y ∷ after = cc in
    elim (cut_at_end zs before after x y tail) [ inl p ↦ inl ((cc), p.1) | inr p ↦ inr (p.0, (cc (p.1))) ]

within : (b : Bool) (n m : ℕ) → n ≤ m → place_before b n ≤ suc m
within true zero m h = omega arith
within false zero m h = omega arith
within b (suc n) m h = omega arith

one_more : (b : Bool) (number first old n p : ℕ) → number ≡ first + n + 1 → old - first ≡ p → cond b number old - first ≡ cond b (suc n) p
one_more true number first old n p e h = omega arith
one_more false number first old n p e h = h

one_less : (b : Bool) (number first old p q : ℕ) (is : b ≡ true → number - first ≡ p) → (b ≡ false → old - first ≡ p) → cond b number old - first ≡ p
one_less true number first old p q is h = is refl
one_less false number first old p q is h = h refl

front_place : (b : Bool) (n : ℕ) → b ≡ true → place_before b n ≡ suc (place_before b n - 1)
front_place true zero e = refl
front_place false zero e = (cc)
front_place b (suc n) e = omega arith

at_place : (n newest first : ℕ) → newest - first ≡ n → first < newest → n ≡ suc (newest - first - 1)
at_place n newest first e h = omega arith

either_way : (b : Bool) → cond b true true ≡ true
either_way true = refl
either_way false = refl

module _ {V : Type 0} where
  pub place-push : (k : ℕ) (ws : List (Write V)) (w : Write V) → place k (ws ++ w ∷ []) ≡ cond (nat_eq k w.key) (suc (length ws)) (place k ws)
  place-push k [] w = refl
  place-push k (x ∷ ws) w = ap (place_before (nat_eq k x.key)) (place-push k ws w) ∙ push_last (nat_eq k x.key) (nat_eq k w.key) (length ws) (place k ws)

  pub place-cons : (k : ℕ) (w : Write V) (ws : List (Write V)) → place k (w ∷ ws) - 1 ≡ place k ws
  place-cons k w ws = under_suc (nat_eq k w.key) (place k ws) 0

  pub place_within : (k : ℕ) (ws : List (Write V)) → place k ws ≤ length ws
  place_within k [] = omega arith
  place_within k (w ∷ ws) = within (nat_eq k w.key) (place k ws) (length ws) (place_within k ws)

  -- the value of the write at the place, which is counted from 1
  abbrev pub value_at : Write V → ℕ → List (Write V) → Option (Option V)
  value_at d zero ws = None
  value_at d (suc i) ws = Some (get_or ws i d).value

  step : (d : Write V) (n : ℕ) (b : Bool) (w : Write V) (ws : List (Write V)) → later (value_at d n ws) (cond b (Some w.value) None) ≡ value_at d (place_before b n) (w ∷ ws)
  step d zero true w ws = refl
  step d zero false w ws = refl
  step d (suc n) b w ws = refl

  pub written_at : (d : Write V) (k : ℕ) (ws : List (Write V)) → written k (shown ws) ≡ value_at d (place k ws) ws
  written_at d k [] = refl
  written_at d k (w ∷ ws) = ap (λ o. later o (cond (nat_eq k w.key) (Some w.value) None)) (written_at d k ws) ∙ step d (place k ws) (nat_eq k w.key) w ws

  cell_split : (b : Bool) (c : Cell V) (o : Option (Cell V)) → cond b c.committed (committed_in o) ≡ committed_in (cond b (Some c) o)
  cell_split true c o = refl
  cell_split false c o = refl

  pub get-base_of : (es : List (ℕ × Cell V)) (q : ℕ) → get (base_of es) q ≡ committed_in (lookup (nat_eq q) es)
  get-base_of [] q = get-empty nat_cmp q
  get-base_of (e ∷ es) q =
      get-put (base_of es) e.0 e.1.committed q
      ∙ ap (cond (nat_eq q e.0) e.1.committed) (get-base_of es q)
      ∙ cell_split (nat_eq q e.0) e.1 (lookup (nat_eq q) es)

  pub base_kept : (old new : List (ℕ × Cell V)) → ((k : ℕ) → committed_in (lookup (nat_eq k) new) ≡ committed_in (lookup (nat_eq k) old)) → base_of new ≡ base_of old
  base_kept old new h = same _ _ (λ q. get-base_of new q ∙ h q ∙ sym (get-base_of old q))

  pub base_put : (old new : List (ℕ × Cell V)) (key : ℕ) (value : Option V) → ((k : ℕ) → committed_in (lookup (nat_eq k) new) ≡ cond (nat_eq key k) value (committed_in (lookup (nat_eq k) old))) → base_of new ≡ put (base_of old) key value
  base_put old new key value h = same _ _ (λ q.
      get-base_of new q ∙ h q
      ∙ ap (λ b. cond b value (committed_in (lookup (nat_eq q) old))) (nat_eq_equiv.symm key q)
      ∙ ap (cond (nat_eq q key) value) (sym (get-base_of old q))
      ∙ sym (get-put (base_of old) key value q))

  -- a key that has a write has a cell
  pub has_cell : (o : Option (Cell V)) (first n : ℕ) → newest_in o - first ≡ suc n → IsSome o
  has_cell (Some c) first n h = refl
  has_cell None first n h = absurd (omega arith)

  -- a cell whose newest number names a write holds something
  number_fills : (b : Bool) (old new : Option (Cell V)) (first number : ℕ) → is_some new ≡ cond b true (is_some old) → newest_in new ≡ cond b number (newest_in old) → committed_in new ≡ committed_in old → first < number → holds first old ≡ true → holds first new ≡ true
  number_fills b old None first number there newest committed less h = refl
  number_fills true old (Some c) first number there newest committed less h =
      let above : first < c.newest = omega (arith, newest) in
      ap (λ x. is_some c.committed || x) (lt-ltb first c.newest above) ∙ or-true (is_some c.committed)
  number_fills false None (Some c) first number there newest committed less h = (cc)
  number_fills false (Some d) (Some c) first number there newest committed less h =
      ap (λ v. is_some v || ltb first c.newest) committed
      ∙ ap (λ n. is_some d.committed || ltb first n) newest
      ∙ h

  -- a cell of another key than the first write's holds something without that write
  still_filled : (same : Bool) (cell : Option (Cell V)) (first behind : ℕ) → newest_in cell - first ≡ place_before same behind → holds first cell ≡ true → cond same true (holds (first + 1) cell) ≡ true
  still_filled true cell first behind e h = refl
  still_filled false None first behind e h = refl
  still_filled false (Some c) first zero e h =
      ap (λ x. is_some c.committed || x) (le-ltb (first + 1) c.newest (omega arith) ∙ sym (le-ltb first c.newest (omega arith))) ∙ h
  still_filled false (Some c) first (suc n) e h =
      ap (λ x. is_some c.committed || x) (lt-ltb (first + 1) c.newest (omega arith)) ∙ or-true (is_some c.committed)

  pub chains_push : (cells cells' : List (ℕ × Cell V)) (full log : List (Write V)) (first key number : ℕ) (w : Write V) → full ≡ log ++ w ∷ [] → HasChains cells log first → ChangesNewest cells cells' key number → number ≡ first + length log + 1 → number < 2 ^ 64 → w.key ≡ key → w.previous ≡ newest_in (lookup (nat_eq key) cells) → HasChains cells' full first
  chains_push cells cells' full log first key number w full_is h changes is fits same_key was = let P : List (Write V) → Type 0 = λ l. HasChains cells' l first in subst P (sym full_is) record {
    newest = λ k.
        ap (λ n. n - first) (changes.newest k)
        ∙ one_more (nat_eq key k) number first _ (length log) (place k log) is (h.newest k)
        ∙ ap (λ b. cond b (suc (length log)) (place k log)) (nat_eq_equiv.symm key k ∙ ap (nat_eq k) (sym same_key))
        ∙ sym (place-push k log w);
    previous = λ before after x e. elim (cut_at_end log before after w x e) [
      | inl p ↦
          let here : w.previous - first ≡ place w.key log = ap (λ n. n - first) was ∙ h.newest key ∙ ap (λ k. place k log) (sym same_key) in
          let P : List (Write V) → Write V → Type 0 = λ b y. y.previous - first ≡ place y.key b in
          subst (λ b. P b x) (sym p.0) (subst (P log) (sym p.1) here)
      | inr p ↦ h.previous before p.0 x p.1
    ];
    filled = λ k. number_fills (nat_eq key k) _ _ first number (changes.there k) (changes.newest k) (changes.committed k) (omega arith) (h.filled k);
    fits = omega (arith, length-append log (w ∷ []));
  }

  pub chains_pop_back : (cells cells' : List (ℕ × Cell V)) (full log : List (Write V)) (first : ℕ) (w : Write V) → full ≡ log ++ w ∷ [] → HasChains cells full first → Renumbers first cells cells' w.key w.previous → HasChains cells' log first
  chains_pop_back cells cells' full log first w is h changes = record {
    newest = λ k.
        changes.newest k
        ∙ one_less (nat_eq w.key k) w.previous first _ (place k log) 0
        (λ yes. h.previous log [] w is ∙ ap (λ q. place q log) (eqb-true w.key k yes))
        (λ no. h.newest k ∙ ap (place k) is ∙ place-push k log w ∙ ap (λ b. cond b (suc (length log)) (place k log)) (nat_eq_equiv.symm k w.key ∙ no));
    previous = λ before after x e. h.previous before (after ++ w ∷ []) x (is ∙ ap (λ l. l ++ w ∷ []) e ∙ append_assoc before (x ∷ after) (w ∷ []));
    filled = λ k. changes.filled k ∙ ap (cond (nat_eq w.key k) true) (h.filled k) ∙ either_way (nat_eq w.key k);
    fits = let e : length full ≡ length (log ++ w ∷ []) = ap length is in omega (arith, h.fits, length-append log (w ∷ []));
  }

  pub chains_pop_front : (cells cells' : List (ℕ × Cell V)) (full log : List (Write V)) (first : ℕ) (w : Write V) → full ≡ w ∷ log → HasChains cells full first → (value : Option V) → Commits (first + 1) cells cells' w.key value → HasChains cells' log (first + 1)
  chains_pop_front cells cells' full log first w is h value changes = record {
    newest = λ k.
        let n : newest_in (lookup (nat_eq k) cells) - first ≡ place k (w ∷ log) = h.newest k ∙ ap (place k) is in
        let p : place k (w ∷ log) - 1 ≡ place k log = place-cons k w log in
        let q : newest_in (lookup (nat_eq k) cells) - (first + 1) ≡ place k log = omega arith in
        changes.newest k ∙ q;
    previous = λ before after x e.
        let n : x.previous - first ≡ place x.key (w ∷ before) = h.previous (w ∷ before) after x (is ∙ ap (λ l. w ∷ l) e) in
        let p : place x.key (w ∷ before) - 1 ≡ place x.key before = place-cons x.key w before in
        omega arith;
    filled = λ k.
        changes.filled k
        ∙ ap (λ b. cond b true (holds (first + 1) (lookup (nat_eq k) cells))) (nat_eq_equiv.symm w.key k)
        ∙ still_filled (nat_eq k w.key) _ first (place k log) (h.newest k ∙ ap (place k) is) (h.filled k);
    fits = let e : length full ≡ length (w ∷ log) = ap length is in omega (arith, h.fits);
  }

  pub cell_of_front : (cells : List (ℕ × Cell V)) (full log : List (Write V)) (first : ℕ) (w : Write V) → full ≡ w ∷ log → HasChains cells full first → IsSome (lookup (nat_eq w.key) cells)
  cell_of_front cells full log first w is h =
      has_cell _ first _ (h.newest w.key ∙ ap (place w.key) is ∙ front_place (nat_eq w.key w.key) (place w.key log) (nat_eq_equiv.refl w.key))

  pub cell_of_back : (cells : List (ℕ × Cell V)) (full log : List (Write V)) (first : ℕ) (w : Write V) → full ≡ log ++ w ∷ [] → HasChains cells full first → IsSome (lookup (nat_eq w.key) cells)
  cell_of_back cells full log first w is h =
      has_cell _ first (length log) (h.newest w.key ∙ ap (place w.key) is ∙ place-push w.key log w ∙ ap (λ b. cond b (suc (length log)) (place w.key log)) (nat_eq_equiv.refl w.key))

  pub in_log : (cells : List (ℕ × Cell V)) (log : List (Write V)) (first key : ℕ) → HasChains cells log first → newest_in (lookup (nat_eq key) cells) - first ≤ length log
  in_log cells log first key h = subst (λ n. n ≤ length log) (sym (h.newest key)) (place_within key log)

  pub latest_written : (cells : List (ℕ × Cell V)) (log : List (Write V)) (first key : ℕ) (d : Write V) → HasChains cells log first → first < newest_in (lookup (nat_eq key) cells) → get (overlay (base_of cells) (shown log)) key ≡ (get_or log (newest_in (lookup (nat_eq key) cells) - first - 1) d).value
  latest_written cells log first key d h above =
      get-overlay (base_of cells) (shown log) key
      ∙ ap (λ o. unwrap_or o (get (base_of cells) key)) (written_at d key log ∙ ap (λ n. value_at d n log) (at_place _ _ first (h.newest key) above))

  no_write : (key : ℕ) (log : List (Write V)) → place key log ≡ 0 → written key (shown log) ≡ None
  no_write key [] e = refl
  no_write key (w ∷ ws) e = written_at w key (w ∷ ws) ∙ ap (λ n. value_at w n (w ∷ ws)) e

  pub latest_committed : (cells : List (ℕ × Cell V)) (log : List (Write V)) (first key : ℕ) → HasChains cells log first → newest_in (lookup (nat_eq key) cells) ≤ first → get (overlay (base_of cells) (shown log)) key ≡ committed_in (lookup (nat_eq key) cells)
  latest_committed cells log first key h below =
      let none : place key log ≡ 0 = let n : newest_in (lookup (nat_eq key) cells) - first ≡ place key log = h.newest key in omega arith in
      get-overlay (base_of cells) (shown log) key
      ∙ ap (λ o. unwrap_or o (get (base_of cells) key)) (no_write key log none)
      ∙ get-base_of cells key

  pub same_past : (m n : FinMap nat_cmp V) (us ws : List (ℕ × Option V)) → m ≡ n → us ≡ ws → ◌≡◌ {A = Past V} (record { base = m; writes = us }) (record { base = n; writes = ws })
  same_past m n us ws e f = λ i. record { base = e i; writes = f i }

  pub shown_more : (full log : List (Write V)) (w : Write V) → full ≡ log ++ w ∷ [] → shown full ≡ shown log ++ (w.key, w.value) ∷ []
  shown_more full log w is = ap shown is ∙ map-append (λ x. (x.key, x.value)) log (w ∷ [])

  pub shown_front : (full log : List (Write V)) (w : Write V) → full ≡ log ++ w ∷ [] → shown log ≡ take (length (shown full) - 1) (shown full)
  shown_front full log w is = rw (shown_more full log w is) (grind (arith, common_steps))
