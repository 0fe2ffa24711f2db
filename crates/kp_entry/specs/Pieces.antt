-- Byte strings that stand one behind the other, with the places where they end.
use Rattle.std.specs.Prelude.{◌≡◌, ℕ, zero, suc, ◌+◌, ◌-◌, List, [], ◌∷◌, length, take, drop}
use Rattle.std.specs.List.{concat}
use Rattle.std.proofs.Common.{get_or}

-- the strings, and for how many more and for how many of their bytes there is room
pub record Texts : Type 0 where
  pub strings : List (List ℕ)
  pub string_room : ℕ
  pub byte_room : ℕ

-- the strings that these ends cut from the bytes, of which the first stands at the place at
abbrev pub pieces : ℕ → List ℕ → List ℕ → List (List ℕ)
pieces at bytes [] = []
pieces at bytes (end ∷ ends) = take (end - at) bytes ∷ pieces end (drop (end - at) bytes) ends

-- where the strings end that stand one behind the other from the place at on
abbrev pub ends_of : ℕ → List (List ℕ) → List ℕ
ends_of at [] = []
ends_of at (s ∷ ss) = (at + length s) ∷ ends_of (at + length s) ss

-- the bytes and the ends are those of these strings
pub record AreOf (bytes ends : List ℕ) (ss : List (List ℕ)) : Type 0 where
  pub joined : bytes ≡ concat ss
  pub ended : ends ≡ ends_of 0 ss

-- where the string at this place begins
abbrev pub begin_of : List ℕ → ℕ → ℕ
begin_of ends zero = 0
begin_of ends (suc n) = get_or ends n 0
