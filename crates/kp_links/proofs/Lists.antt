-- Lemmas on beginnings of lists and on the messages of one seat.
use Rattle.std.proofs.Common.{◌≡◌, ◌≢◌, ℕ, zero, suc, ◌⊎◌, inl, inr, List, [], ◌∷◌, ◌++◌, length, ◌<◌, arith, sym, refl, ap, ◌∙◌, append_assoc, subst, ⊎_elim, set}
use Rattle.std.specs.Prelude.{cond, ◌==◌, Bool, true, false}
use mathlib.Core.Option.{some, some-injective, some-ne-none}
use lib.ListN.{get_elem?}
use Rattle.crossbeam_queue.proofs.Lists.{at_set}
use Rattle.std.proofs.lemmas.Bool.{eq-eqb, ne_eqb}
use Rattle.kp_links.specs.LinkView.{IsPrefix}
use Rattle.kp_links.specs.LinkRule.{of_seat}

module _ {B : Type 0} where
  append_nil : (xs : List B) → xs ++ [] ≡ xs
  append_nil [] = refl
  append_nil (x ∷ xs) = ap (λ (l : List B). x ∷ l) (append_nil xs)

  pub IsPrefix-self : (xs : List B) → IsPrefix xs xs
  IsPrefix-self xs = ([], sym (append_nil xs))

  pub IsPrefix-append : (xs ys zs : List B) → IsPrefix xs ys → IsPrefix xs (ys ++ zs)
  IsPrefix-append xs ys zs p = (p.0 ++ zs, ap (λ (l : List B). l ++ zs) p.1 ∙ append_assoc xs p.0 zs)

  -- what holds of each element holds of each after one changed
  pub each_set : (l : List B) (i : ℕ) (a : B) (P : ℕ → B → Type 0) → P i a → ((j : ℕ) (b : B) → j ≢ i → get_elem? l j ≡ some b → P j b)
      → (j : ℕ) (b : B) → get_elem? (set l i a) j ≡ some b → P j b
  each_set l i a P here others j b at =
      ⊎_elim (λ new. subst (λ (k : ℕ). P k b) (sym new.0) (subst (P i) new.1 here)) (λ old. others j b old.0 old.1) (at_set l i j a b at)

  -- at a list with one more element: an old place, or the new one
  pub at_append : (l : List B) (a b : B) (j : ℕ) → get_elem? (l ++ a ∷ []) j ≡ some b → (get_elem? l j ≡ some b) ⊎ ((j ≡ length l) × (a ≡ b))
  at_append [] a b zero there = inr (refl, some-injective a b there)
  at_append [] a b (suc j) there = absurd (some-ne-none b (sym there))
  at_append (x ∷ xs) a b zero there = inl there
  at_append (x ∷ xs) a b (suc j) there = ⊎_elim inl (λ new. inr (ap suc new.0, new.1)) (at_append xs a b j there)

  -- a place that is there is below the length
  pub at_below : (l : List B) (i : ℕ) (b : B) → get_elem? l i ≡ some b → i < length l
  at_below [] i b at = absurd (some-ne-none b (sym at))
  at_below (x ∷ xs) zero b at = omega arith
  at_below (x ∷ xs) (suc i) b at = let below = at_below xs i b at in omega arith

module _ {M : Type 0} where
  cond_append : (b : Bool) (x : M) (xs ys : List M) → cond b (x ∷ (xs ++ ys)) (xs ++ ys) ≡ cond b (x ∷ xs) xs ++ ys
  cond_append true x xs ys = refl
  cond_append false x xs ys = refl

  pub of_seat-append : (j : ℕ) (ps qs : List (ℕ × M)) → of_seat j (ps ++ qs) ≡ of_seat j ps ++ of_seat j qs
  of_seat-append j [] qs = refl
  of_seat-append j (p ∷ ps) qs = ap (λ (l : List M). cond (p.0 == j) (p.1 ∷ l) l) (of_seat-append j ps qs) ∙ cond_append (p.0 == j) p.1 (of_seat j ps) (of_seat j qs)

  -- one message of a seat is of that seat alone
  pub of_seat-own : (j : ℕ) (x : M) → of_seat j ((j, x) ∷ []) ≡ x ∷ []
  of_seat-own j x = ap (λ (b : Bool). cond b (x ∷ []) []) (eq-eqb j j refl)

  pub of_seat-other : (j k : ℕ) (x : M) → k ≢ j → of_seat j ((k, x) ∷ []) ≡ []
  of_seat-other j k x other = ap (λ (b : Bool). cond b (x ∷ []) []) (ne_eqb k j other)

  -- one more message of a seat
  pub of_seat-more : (j : ℕ) (ps : List (ℕ × M)) (x : M) → of_seat j (ps ++ (j, x) ∷ []) ≡ of_seat j ps ++ x ∷ []
  of_seat-more j ps x = of_seat-append j ps ((j, x) ∷ []) ∙ ap (λ (l : List M). of_seat j ps ++ l) (of_seat-own j x)

  pub of_seat-same : (j k : ℕ) (ps : List (ℕ × M)) (x : M) → k ≢ j → of_seat j (ps ++ (k, x) ∷ []) ≡ of_seat j ps
  of_seat-same j k ps x other = of_seat-append j ps ((k, x) ∷ []) ∙ ap (λ (l : List M). of_seat j ps ++ l) (of_seat-other j k x other) ∙ append_nil (of_seat j ps)
