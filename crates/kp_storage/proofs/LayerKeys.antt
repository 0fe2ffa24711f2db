-- The keys that layers write at, through what is done to the layers.
use Rattle.std.proofs.Common.{◌≡◌, ℕ, zero, suc, ◌-◌, ◌<◌, ◌≤◌, ◌⊎◌, inl, inr, ⊎_elim, List, [], ◌∷◌, ◌++◌, take, drop, length, slice_get, Some, refl, ap, sym, subst, ◌∙◌, arith, length-append, length-take-le, take-take}
use Rattle.std.proofs.lemmas.List.{take-append-le}
use Rattle.std.proofs.lemmas.Option.{none-some, same_Some, slice_get_within}
use Rattle.std.specs.declared.cmp.Ordering.{Ordering}
use Rattle.std.specs.Prelude.{unwrap_or}
use Rattle.kp_layers.specs.Layering.{Layering, staged_of, begun, sealed, front_committed, back_dropped}
use Rattle.kp_model.specs.LogEntry.{LogEntry}
use Rattle.kp_model.specs.State.{State}
use Rattle.kp_model.specs.Step.{apply}
use Rattle.kp_model.specs.Store.{after}
use Rattle.kp_model.specs.Touched.{touched}
use Rattle.kp_cells.specs.Overlays.{Overlays, committed_state, all_begun, all_sealed, all_committed, all_dropped}
use Rattle.kp_prep.specs.Touching.{AreWithin, keys_of, layer, layer_keys, staged_keys}
use Rattle.kp_storage.specs.Kept.{HasLayers, IsLayered, TouchesOnly}

module _ {A : Type 0} where
  at_front : (xs : List A) (y : A) (k : ℕ) → k < length xs → slice_get (xs ++ y ∷ []) k ≡ slice_get xs k
  at_front [] y k lt = absurd (omega (arith, lt))
  at_front (x ∷ xs) y zero lt = refl
  at_front (x ∷ xs) y (suc k) lt = at_front xs y k (omega (arith, lt))

  at_end : (xs : List A) (y : A) → slice_get (xs ++ y ∷ []) (length xs) ≡ Some y
  at_end [] y = refl
  at_end (x ∷ xs) y = at_end xs y

  at_taken : (n k : ℕ) (xs : List A) → k < n → slice_get (take n xs) k ≡ slice_get xs k
  at_taken zero k xs lt = absurd (omega (arith, lt))
  at_taken (suc n) k [] lt = refl
  at_taken (suc n) zero (x ∷ xs) lt = refl
  at_taken (suc n) (suc k) (x ∷ xs) lt = at_taken n k xs (omega (arith, lt))

  at_dropped : (xs : List A) (k : ℕ) → slice_get (drop 1 xs) k ≡ slice_get xs (suc k)
  at_dropped [] k = refl
  at_dropped (x ∷ xs) k = refl

module _ {K V : Type 0} {R : K → K → Ordering} where
  layer_front : (l : Layering R V) (k : ℕ) → layer k (front_committed l) ≡ layer (suc k) l
  layer_front l k = ap (λ o. unwrap_or o []) (at_dropped l.layers k)

  layer_back : (l : Layering R V) (n k : ℕ) → HasLayers n l → k < n - 1 → layer k (back_dropped l) ≡ layer k l
  layer_back l n k h lt = ap (λ o. unwrap_or o []) (at_taken (length l.layers - 1) k l.layers (omega (arith, lt, h.sealed)))

  as_many : (l m : Layering R V) (n : ℕ) → HasLayers n l → begun m ≡ begun l → length m.layers ≡ n
  as_many l m n h e = ap (λ x. length x.layers) e ∙ h.sealed

  layer_sealed : (l m : Layering R V) (n k : ℕ) → HasLayers n l → begun m ≡ begun l → k < n → layer k (sealed m) ≡ layer k l
  layer_sealed l m n k h e lt =
      ap (λ o. unwrap_or o []) (at_front m.layers (staged_of m) k (omega (arith, lt, as_many l m n h e)))
      ∙ ap (λ x. layer k x) e

  layer_last : (l m : Layering R V) (n : ℕ) → HasLayers n l → begun m ≡ begun l → layer n (sealed m) ≡ staged_of m
  layer_last l m n h e =
      ap (λ j. layer j (sealed m)) (sym (as_many l m n h e))
      ∙ ap (λ o. unwrap_or o []) (at_end m.layers (staged_of m))

keys_front : (o : Overlays) (k : ℕ) → layer_keys k (all_committed o) ≡ layer_keys (suc k) o
keys_front o k = λ i. keys_of (layer_front o.metas k i) (layer_front o.contents k i) (layer_front o.acls k i) (layer_front o.children k i) (layer_front o.owners k i) (layer_front o.sessions k i)

keys_back : (o : Overlays) (n k : ℕ) → IsLayered n o → k < n - 1 → layer_keys k (all_dropped o) ≡ layer_keys k o
keys_back o n k h lt = λ i. keys_of (layer_back o.metas n k h.metas lt i) (layer_back o.contents n k h.contents lt i) (layer_back o.acls n k h.acls lt i) (layer_back o.children n k h.children lt i)
    (layer_back o.owners n k h.owners lt i) (layer_back o.sessions n k h.sessions lt i)

keys_sealed : (o p : Overlays) (n k : ℕ) → IsLayered n o → all_begun p ≡ all_begun o → k < n → layer_keys k (all_sealed p) ≡ layer_keys k o
keys_sealed o p n k h on lt = λ i. keys_of
    (layer_sealed o.metas p.metas n k h.metas (ap (λ (x : Overlays). x.metas) on) lt i)
    (layer_sealed o.contents p.contents n k h.contents (ap (λ (x : Overlays). x.contents) on) lt i)
    (layer_sealed o.acls p.acls n k h.acls (ap (λ (x : Overlays). x.acls) on) lt i)
    (layer_sealed o.children p.children n k h.children (ap (λ (x : Overlays). x.children) on) lt i)
    (layer_sealed o.owners p.owners n k h.owners (ap (λ (x : Overlays). x.owners) on) lt i)
    (layer_sealed o.sessions p.sessions n k h.sessions (ap (λ (x : Overlays). x.sessions) on) lt i)

keys_last : (o p : Overlays) (n : ℕ) → IsLayered n o → all_begun p ≡ all_begun o → layer_keys n (all_sealed p) ≡ staged_keys p
keys_last o p n h on = λ i. keys_of
    (layer_last o.metas p.metas n h.metas (ap (λ (x : Overlays). x.metas) on) i)
    (layer_last o.contents p.contents n h.contents (ap (λ (x : Overlays). x.contents) on) i)
    (layer_last o.acls p.acls n h.acls (ap (λ (x : Overlays). x.acls) on) i)
    (layer_last o.children p.children n h.children (ap (λ (x : Overlays). x.children) on) i)
    (layer_last o.owners p.owners n h.owners (ap (λ (x : Overlays). x.owners) on) i)
    (layer_last o.sessions p.sessions n h.sessions (ap (λ (x : Overlays). x.sessions) on) i)

-- without entries
pub touches_none : (o : Overlays) → TouchesOnly o []
touches_none o k e at = absurd (none-some e at)

-- the first layer is made part of the committed state
pub touches_front : (o : Overlays) (e : LogEntry) (es : List LogEntry) → committed_state (all_committed o) ≡ (apply (committed_state o) e).state → TouchesOnly o (e ∷ es) → TouchesOnly (all_committed o) es
unfolding after
touches_front o e es first h k u at =
    subst (λ (s : State). AreWithin (touched (after s (take k es)) u) (layer_keys k (all_committed o))) (sym first)
    (subst (AreWithin (touched (after (apply (committed_state o) e).state (take k es)) u)) (sym (keys_front o k)) (h (suc k) u at))

-- the last layer is dropped
pub touches_back : (o : Overlays) (es : List LogEntry) → IsLayered (length es) o → TouchesOnly o es → TouchesOnly (all_dropped o) (take (length es - 1) es)
touches_back o es layered h k u at =
    let n : ℕ = length es - 1 in
    let lt : k < n = omega (arith, slice_get_within (take n es) k u at, length-take-le n es (omega arith)) in
    subst (λ (us : List LogEntry). AreWithin (touched (after (committed_state o) us) u) (layer_keys k (all_dropped o))) (sym (take-take k n es (omega (arith, lt))))
    (subst (AreWithin (touched (after (committed_state o) (take k es)) u)) (sym (keys_back o (length es) k layered lt)) (h k u (sym (at_taken n k es lt) ∙ at)))

-- the layer of one entry more is sealed
module _ (o p : Overlays) (es : List LogEntry) (e : LogEntry) (layered : IsLayered (length es) o) (on : all_begun p ≡ all_begun o) (sealed_state : committed_state (all_sealed p) ≡ committed_state o) where
  before : TouchesOnly o es → (k : ℕ) (u : LogEntry) → k < length es → slice_get (es ++ e ∷ []) k ≡ Some u → AreWithin (touched (after (committed_state (all_sealed p)) (take k (es ++ e ∷ []))) u) (layer_keys k (all_sealed p))
  before h k u lt at =
      subst (λ (s : State). AreWithin (touched (after s (take k (es ++ e ∷ []))) u) (layer_keys k (all_sealed p))) (sym sealed_state)
      (subst (λ (us : List LogEntry). AreWithin (touched (after (committed_state o) us) u) (layer_keys k (all_sealed p))) (sym (take-append-le k es (e ∷ []) (omega (arith, lt))))
      (subst (AreWithin (touched (after (committed_state o) (take k es)) u)) (sym (keys_sealed o p (length es) k layered on lt)) (h k u (sym (at_front es e k lt) ∙ at))))

  whole_list : (xs : List LogEntry) (y : LogEntry) → take (length xs) (xs ++ y ∷ []) ≡ xs
  whole_list [] y = refl
  whole_list (x ∷ xs) y = ap (λ zs. x ∷ zs) (whole_list xs y)

  last : AreWithin (touched (after (committed_state o) es) e) (staged_keys p) → (u : LogEntry) → slice_get (es ++ e ∷ []) (length es) ≡ Some u → AreWithin (touched (after (committed_state (all_sealed p)) (take (length es) (es ++ e ∷ []))) u) (layer_keys (length es) (all_sealed p))
  last w u at =
      subst (λ (s : State). AreWithin (touched (after s (take (length es) (es ++ e ∷ []))) u) (layer_keys (length es) (all_sealed p))) (sym sealed_state)
      (subst (λ (us : List LogEntry). AreWithin (touched (after (committed_state o) us) u) (layer_keys (length es) (all_sealed p))) (sym (whole_list es e))
      (subst (λ (x : LogEntry). AreWithin (touched (after (committed_state o) es) x) (layer_keys (length es) (all_sealed p))) (same_Some _ _ (sym (at_end es e) ∙ at))
      (subst (AreWithin (touched (after (committed_state o) es) e)) (sym (keys_last o p (length es) layered on)) w)))

  pub touches_more : TouchesOnly o es → AreWithin (touched (after (committed_state o) es) e) (staged_keys p) → TouchesOnly (all_sealed p) (es ++ e ∷ [])
  touches_more h w k u at = by_place (nat_split k (length es)) where
    nat_split : (a b : ℕ) → (a < b) ⊎ (b ≤ a)
    nat_split a zero = inr (omega arith)
    nat_split zero (suc b) = inl (omega arith)
    nat_split (suc a) (suc b) = ⊎_elim (λ (lt : a < b). inl (omega (arith, lt))) (λ (le : b ≤ a). inr (omega (arith, le))) (nat_split a b)

    by_place : (k < length es) ⊎ (length es ≤ k) → AreWithin (touched (after (committed_state (all_sealed p)) (take k (es ++ e ∷ []))) u) (layer_keys k (all_sealed p))
    by_place (inl lt) = before h k u lt at
    by_place (inr le) =
        let is : k ≡ length es = omega (arith, le, slice_get_within (es ++ e ∷ []) k u at, length-append es (e ∷ [])) in
        subst (λ j. AreWithin (touched (after (committed_state (all_sealed p)) (take j (es ++ e ∷ []))) u) (layer_keys j (all_sealed p))) (sym is)
        (last w u (ap (slice_get (es ++ e ∷ [])) (sym is) ∙ at))
