-- Lists of requests that wait.
use Rattle.std.proofs.Common.{◌≡◌, ℕ, zero, suc, ◌+◌, Bool, true, false, cond, ◌==◌, not, inl, inr, List, [], ◌∷◌, ◌++◌, length, slice_get, slice_set, Option, Some, None, is_some, refl, ap, sym, subst, ◌∙◌, arith}
use Rattle.std.specs.Prelude.{if◌then◌else◌}
use Rattle.std.specs.List.{AllByRecursion, position_or_len, prefix_len}
use Rattle.kp_conn.specs.declared.waiting.Waiting.{Waiting}
use Rattle.kp_conn.specs.Queue.{is_numbered, place_of}
use Rattle.kp_step.proofs.Tables.{no}
use Rattle.kp_answers.specs.Whence.{SomeWaits}

module _ (P : Waiting → Type 0) where
  pub all_push : (q : List Waiting) (w : Waiting) → AllByRecursion P q → P w → AllByRecursion P (q ++ w ∷ [])
  all_push [] w h p = (p, tt)
  all_push (v ∷ q) w h p = (h.0, all_push q w h.1 p)

  pub all_set : (q : List Waiting) (i : ℕ) (w : Waiting) → AllByRecursion P q → P w → AllByRecursion P (slice_set q i w)
  all_set [] i w h p = tt
  all_set (v ∷ q) zero w h p = (p, h.1)
  all_set (v ∷ q) (suc i) w h p = (h.0, all_set q i w h.1 p)

  pub some_at : (q : List Waiting) (i : ℕ) (w : Waiting) → slice_get q i ≡ Some w → P w → SomeWaits q P
  some_at [] i w e p = no false refl (ap is_some e)
  some_at (v ∷ q) zero w e p = inl (subst P (ap (λ (o : Option Waiting). or_else o v) (sym e)) p) where
    or_else : Option Waiting → Waiting → Waiting
    or_else None v = v
    or_else (Some u) v = u
  some_at (v ∷ q) (suc i) w e p = inr (some_at q i w e p)

module _ (P Q : Waiting → Type 0) where
  pub some_map : (q : List Waiting) → ((w : Waiting) → P w → Q w) → SomeWaits q P → SomeWaits q Q
  some_map [] f h = h
  some_map (w ∷ q) f (inl h) = inl (f w h)
  some_map (w ∷ q) f (inr h) = inr (some_map q f h)

-- each of a list is found in it, under what holds of itself
module _ (P : Waiting → Waiting → Type 0) (itself : (w : Waiting) → P w w) where
  found_in : (full q : List Waiting) → ((w : Waiting) → SomeWaits q (P w) → SomeWaits full (P w)) → AllByRecursion (λ w. SomeWaits full (P w)) q
  found_in full [] f = tt
  found_in full (w ∷ q) f = (f w (inl (itself w)), found_in full q (λ v h. f v (inr h)))

  pub all_found : (q : List Waiting) → AllByRecursion (λ w. SomeWaits q (P w)) q
  all_found q = found_in q q (λ w h. h)

-- the first that passes a test passes it
first_passes : (p : Waiting → Bool) (q : List Waiting) (w : Waiting) → slice_get q (position_or_len p q) ≡ Some w → p w ≡ true
first_passes p [] w e = no false refl (ap is_some e)
first_passes p (v ∷ q) w e = by_test (p v) refl (λ h. first_passes p q w h) e where
  test : Option Waiting → Bool
  test None = p v
  test (Some u) = p u

  by_test : (b : Bool) → p v ≡ b → (slice_get q (position_or_len p q) ≡ Some w → p w ≡ true) → slice_get (v ∷ q) (cond (not b) (1 + prefix_len (λ x. not (p x)) q) 0) ≡ Some w → p w ≡ true
  by_test true h f k = sym (ap test k) ∙ h
  by_test false h f k = let one : 1 + prefix_len (λ x. not (p x)) q ≡ suc (prefix_len (λ x. not (p x)) q) = omega arith in f (subst (λ z. slice_get (v ∷ q) z ≡ Some w) one k)

past_none : (q : List Waiting) → slice_get q (length q) ≡ None
past_none [] = refl
past_none (v ∷ q) = past_none q

-- the request that has a number has it
pub numbered_at : (seq : ℕ) (q : List Waiting) (w : Waiting) → slice_get q (place_of seq q) ≡ Some w → is_numbered seq w ≡ true
numbered_at seq q w e = by_zero (seq == 0) e where
  by_zero : (b : Bool) → slice_get q (if b then length q else position_or_len (is_numbered seq) q) ≡ Some w → is_numbered seq w ≡ true
  by_zero true h = no false refl (ap is_some (sym (past_none q) ∙ h))
  by_zero false h = first_passes (is_numbered seq) q w h
