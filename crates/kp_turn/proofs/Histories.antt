-- Lemmas on histories, on their beginnings, and on what they lead to.
use Rattle.std.proofs.Common.{◌≡◌, ◌≤◌, List, [], ◌∷◌, ◌++◌, length, sym, refl, ap, ◌∙◌, arith, append_assoc, length-append}
use Rattle.std.specs.Prelude.{Option, Some, None, IsSomeAnd}
use Rattle.std.specs.declared.snapshot.Snapshot.{Snapshot}
use Rattle.kp_turn.specs.History.{Runs, IsPrefix, value_after}

module _ {B : Type 0} where
  append_nil : (xs : List B) → xs ++ [] ≡ xs
  append_nil [] = refl
  append_nil (x ∷ xs) = ap (λ (l : List B). x ∷ l) (append_nil xs)

  -- a list begins with itself
  pub IsPrefix-self : (xs : List B) → IsPrefix xs xs
  IsPrefix-self xs = ([], sym (append_nil xs))

  -- a longer list begins with it too
  pub IsPrefix-append : (xs ys zs : List B) → IsPrefix xs ys → IsPrefix xs (ys ++ zs)
  IsPrefix-append xs ys zs p = (p.0 ++ zs, ap (λ (l : List B). l ++ zs) p.1 ∙ append_assoc xs p.0 zs)

  pub IsPrefix-trans : (xs ys zs : List B) → IsPrefix xs ys → IsPrefix ys zs → IsPrefix xs zs
  IsPrefix-trans xs ys zs p q = (p.0 ++ q.0, q.1 ∙ ap (λ (l : List B). l ++ q.0) p.1 ∙ append_assoc xs p.0 q.0)

  pub IsPrefix-length : (xs ys : List B) → IsPrefix xs ys → length xs ≤ length ys
  IsPrefix-length xs ys p = let longer : length ys ≡ length (xs ++ p.0) = ap length p.1 in omega (arith, length-append xs p.0)

module _ {T E A : Type 0} (steps : T → E → A → T → Type 0) where
  -- a history of steps with one more step is one
  pub Runs-append : (x : T) (ts : List (E × A × T)) (e : E) (a : A) (z : T) → Runs steps x ts → steps (value_after x ts) e a z → Runs steps x (ts ++ (e, a, z) ∷ [])
  Runs-append x [] e a z runs step = (step, tt)
  Runs-append x (t ∷ ts) e a z runs step = (runs.0, Runs-append t.2 ts e a z runs.1 step)

-- it ends with the value after that step
pub value_after-append : {T E A : Type 0} → (x : T) (ts : List (E × A × T)) (e : E) (a : A) (z : T) → value_after x (ts ++ (e, a, z) ∷ []) ≡ z
value_after-append x [] e a z = refl
value_after-append x (t ∷ ts) e a z = value_after-append t.2 ts e a z

-- what a slot tells is one event and one answer
pub same_told : {E A : Type 0} (last : Option (Snapshot E × Snapshot A)) (e : E) (a : A) (d : E) (b : A) → IsSomeAnd last (λ p. (p.0.value ≡ e) × (p.1.value ≡ a))
    → IsSomeAnd last (λ p. (p.0.value ≡ d) × (p.1.value ≡ b)) → (e ≡ d) × (a ≡ b)
same_told None e a d b one other = absurd one
same_told (Some p) e a d b one other = (sym one.0 ∙ other.0, sym one.1 ∙ other.1)
