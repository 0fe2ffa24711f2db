-- What stays true of all views where one of them changes, and where a new one comes.
use Rattle.std.proofs.Common.{◌≡◌, ℕ, zero, suc, ◌≢◌, ◌⊎◌, List, [], ◌∷◌, ◌++◌, length, set, IsTrue, sym, refl, ap, ◌∙◌, subst, inl, inr, ⊎_elim}
use mathlib.Core.Option.{some, some-injective, some-ne-none}
use mathlib.Core.Logic.{dite}
use native.Mathlib.Decide.{ℕ_discrete}
use lib.ListN.{get_elem?}
use Rattle.atomic_table.proofs.Lists.{at_set, set_else, at_longer}
use Rattle.kp_turn.specs.declared.view.TurnView.{TurnView}
use Rattle.kp_turn.specs.TurnRule.{Apart}

module _ {B : Type 0} where
  -- what was written at a place that is there stands there
  pub at_set_here : (l : List B) (i : ℕ) (a b : B) → get_elem? l i ≡ some b → get_elem? (set l i a) i ≡ some a
  at_set_here [] i a b there = absurd (some-ne-none b (sym there))
  at_set_here (x ∷ xs) zero a b there = refl
  at_set_here (x ∷ xs) (suc i) a b there = at_set_here xs i a b there

  -- at a list with one more element: an old place, or the new one
  pub at_append : (l : List B) (a b : B) (j : ℕ) → get_elem? (l ++ a ∷ []) j ≡ some b → (get_elem? l j ≡ some b) ⊎ ((j ≡ length l) × (a ≡ b))
  at_append [] a b zero there = inr (refl, some-injective a b there)
  at_append [] a b (suc j) there = absurd (some-ne-none b (sym there))
  at_append (x ∷ xs) a b zero there = inl there
  at_append (x ∷ xs) a b (suc j) there = ⊎_elim inl (λ new. inr (ap suc new.0, new.1)) (at_append xs a b j there)

  -- what holds of each element holds of each after one changed
  pub each_set : (l : List B) (i : ℕ) (a : B) (P : ℕ → B → Type 0) → P i a → ((j : ℕ) (b : B) → j ≢ i → get_elem? l j ≡ some b → P j b)
      → (j : ℕ) (b : B) → get_elem? (set l i a) j ≡ some b → P j b
  each_set l i a P here others j b at =
      ⊎_elim (λ new. subst (λ (k : ℕ). P k b) (sym new.0) (subst (P i) new.1 here)) (λ old. others j b old.0 old.1) (at_set l i j a b at)

module _ {T E A : Type 0} where
  -- each place of the new view w is one of the old view v, or no view has it
  abbrev pub KeepsApart : List (TurnView T E A) → TurnView T E A → TurnView T E A → Type 0
  KeepsApart views v w = (n k : ℕ) → get_elem? w.mine n ≡ some k
      → ((m : ℕ) × (get_elem? v.mine m ≡ some k)) ⊎ ((j : ℕ) (u : TurnView T E A) (m : ℕ) → get_elem? views j ≡ some u → get_elem? u.mine m ≡ some k → ⊥)

  pub KeepsApart-same : (views : List (TurnView T E A)) (v w : TurnView T E A) → w.mine ≡ v.mine → KeepsApart views v w
  KeepsApart-same views v w same n k at = inl (n, subst (λ (l : List ℕ). get_elem? l n ≡ some k) same at)

  pub Apart-set : (views : List (TurnView T E A)) (id : ℕ) (v w : TurnView T E A) → get_elem? views id ≡ some v → KeepsApart views v w → Apart views → Apart (set views id w)
  Apart-set views id v w me fine old i j a b m n k ai bj am bn =
      ⊎_elim
      (λ s. ⊎_elim (λ t. s.0 ∙ sym t.0)
      (λ t. ⊎_elim (λ p. s.0 ∙ old id j v b p.0 n k me t.1 p.1 bn) (λ no. absurd (no j b n t.1 bn)) (fine m k (subst (λ (u : TurnView T E A). get_elem? u.mine m ≡ some k) (sym s.1) am)))
      (at_set views id j w b bj))
      (λ s. ⊎_elim
      (λ t. ⊎_elim (λ p. old i id a v m p.0 k s.1 me am p.1 ∙ sym t.0) (λ no. absurd (no i a m s.1 am)) (fine n k (subst (λ (u : TurnView T E A). get_elem? u.mine n ≡ some k) (sym t.1) bn)))
      (λ t. old i j a b m n k s.1 t.1 am bn)
      (at_set views id j w b bj))
      (at_set views id i w a ai)

  pub Apart-append : (views : List (TurnView T E A)) (w : TurnView T E A) → w.mine ≡ [] → Apart views → Apart (views ++ w ∷ [])
  Apart-append views w none-yet old i j a b m n k ai bj am bn =
      let empty : (u : TurnView T E A) (q : ℕ) → w ≡ u → get_elem? u.mine q ≡ some k → ⊥ = λ u q is at. some-ne-none k (sym (subst (λ (l : List ℕ). get_elem? l q ≡ some k) (sym (ap (λ (x : TurnView T E A). x.mine) is) ∙ none-yet) at)) in
      ⊎_elim (λ s. ⊎_elim (λ t. old i j a b m n k s t am bn) (λ t. absurd (empty b n t.1 bn)) (at_append views w b j bj)) (λ s. absurd (empty a m s.1 am)) (at_append views w a i ai)

  -- the seat of the view at this place has the turn
  abbrev pub HasTurnAt : List (TurnView T E A) → ℕ → Type 0
  HasTurnAt views holder = (u : TurnView T E A) × (get_elem? views holder ≡ some u) × IsTrue u.has_turn

  pub HasTurnAt-set : (views : List (TurnView T E A)) (id holder : ℕ) (v w : TurnView T E A) → get_elem? views id ≡ some v → (IsTrue v.has_turn → IsTrue w.has_turn) → HasTurnAt views holder → HasTurnAt (set views id w) holder
  HasTurnAt-set views id holder v w me stays t = dite (ℕ_discrete holder id)
      (λ e. (w, subst (λ (k : ℕ). get_elem? (set views id w) k ≡ some w) (sym e) (at_set_here views id w v me), stays (subst (λ (u : TurnView T E A). IsTrue u.has_turn) (some-injective t.0 v (sym t.1 ∙ ap (get_elem? views) e ∙ me)) t.2)))
      (λ ne. (t.0, set_else views id holder w ne ∙ t.1, t.2))

  pub HasTurnAt-append : (views : List (TurnView T E A)) (w : TurnView T E A) (holder : ℕ) → HasTurnAt views holder → HasTurnAt (views ++ w ∷ []) holder
  HasTurnAt-append views w holder t = (t.0, at_longer views (w ∷ []) holder t.0 t.1, t.2)
