-- The last term of a log.
use Rattle.std.proofs.Common.{◌≡◌, ℕ, zero, suc, ◌<◌, ◌⊎◌, inl, inr, List, [], ◌∷◌, ◌++◌, length, take, Some, slice_get, refl, arith}
use mathlib.Core.List.{IsPrefix}
use Rattle.kp_model.specs.LogEntry.{LogEntry}
use Rattle.kp_world.specs.Log.{last_term}
use Rattle.kp_world.proofs.Prefixes.{prefix_length}

pub last_term_snoc : (xs : List LogEntry) (e : LogEntry) → last_term (xs ++ e ∷ []) ≡ e.term
last_term_snoc [] e = refl
last_term_snoc (x ∷ []) e = refl
last_term_snoc (x ∷ y ∷ xs) e = last_term_snoc (y ∷ xs) e

-- the last term of the log up to the place i is that of the entry there
pub last_term_take : (i : ℕ) (xs : List LogEntry) (e : LogEntry) → slice_get xs i ≡ Some e → last_term (take (suc i) xs) ≡ e.term
last_term_take i [] e h = absurd cc
last_term_take zero (x ∷ xs) e h = cc h
last_term_take (suc i) (x ∷ []) e h = absurd cc
last_term_take (suc i) (x ∷ y ∷ xs) e h = last_term_take i (y ∷ xs) e h

-- a log with a last term above 0 has an entry
pub last_term_some : (xs : List LogEntry) → 0 < last_term xs → 0 < length xs
last_term_some [] h = h
last_term_some (x ∷ xs) h = omega arith

pub some_or_zero : (xs : List LogEntry) → (0 < length xs) ⊎ (last_term xs ≡ 0)
some_or_zero [] = inr refl
some_or_zero (x ∷ xs) = inl (omega arith)

pub empty_length : (p : List LogEntry) → IsPrefix p [] → length p ≡ 0
empty_length p w = omega (arith, prefix_length p [] w)

pub empty_last_term : (p : List LogEntry) → IsPrefix p [] → last_term p ≡ 0
empty_last_term [] w = refl
empty_last_term (x ∷ p) w = absurd (omega (arith, prefix_length (x ∷ p) [] w))
