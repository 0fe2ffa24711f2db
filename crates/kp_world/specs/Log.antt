-- Logs of entries. Of an entry nothing is said but its term.
use Rattle.std.specs.Prelude.{ℕ, ◌≡◌, ◌<◌, ◌≤◌, ◌⊎◌, List, [], ◌∷◌, length}
use mathlib.Core.List.{IsPrefix}
use Rattle.kp_model.specs.LogEntry.{LogEntry}

-- the term of a log's last entry, or 0 where the log is empty
abbrev pub last_term : List LogEntry → ℕ
last_term [] = 0
last_term (e ∷ []) = e.term
last_term (e ∷ f ∷ es) = last_term (f ∷ es)

-- xs is at least as up-to-date as ys: its last term is later, or is the same and xs is no shorter (Ongaro's thesis, section 3.6.1)
pub record IsUpToDate (xs ys : List LogEntry) : Type 0 where
  pub newer : (last_term ys < last_term xs) ⊎ ((last_term ys ≡ last_term xs) × (length ys ≤ length xs))

-- p is a beginning of xs whose last entry is one of term t
pub record EndsInTerm (xs : List LogEntry) (t : ℕ) (p : List LogEntry) : Type 0 where
  pub within : IsPrefix p xs
  pub ends : last_term p ≡ t
  pub some : 0 < length p

-- one of the two lists begins the other
abbrev pub BeginAlike : List LogEntry → List LogEntry → Type 0
BeginAlike p q = IsPrefix p q ⊎ IsPrefix q p
