-- Paths, as the bytes of their texts.
use Rattle.std.specs.Prelude.{ℕ, Bool, true, false, not, ◌&&◌, ◌||◌, ◌==◌, ◌+◌, List, [], ◌∷◌, take, drop, Option, Some, None, if◌then◌else◌}
use Rattle.std.specs.List.{slice_split, list_all}

-- the path `/`
abbrev pub root : List ℕ
root = 47 ∷ []

abbrev pub is_slash : ℕ → Bool
is_slash b = b == 47

abbrev pub is_empty : List ℕ → Bool
is_empty [] = true
is_empty (b ∷ bs) = false

-- a part between two slashes: not nothing, not one dot, not two
abbrev pub is_part : List ℕ → Bool
is_part [] = false
is_part (a ∷ []) = not (a == 46)
is_part (a ∷ b ∷ []) = not (a == 46 && b == 46)
is_part (a ∷ b ∷ c ∷ bs) = true

-- the root, or a slash and then parts with one slash between each two, without NUL
unfoldable pub is_well_formed : List ℕ → Bool
is_well_formed [] = false
is_well_formed (b ∷ bs) = b == 47 && (is_empty bs || (list_all (λ c. not (c == 0)) bs && list_all is_part (slice_split is_slash bs)))

-- the place of the last slash, counted from 0
unfoldable pub last_slash : List ℕ → Option ℕ
last_slash [] = None
last_slash (b ∷ bs) = elim (last_slash bs) [ Some i ↦ Some (i + 1) | None ↦ if b == 47 then Some 0 else None ]

abbrev pub before_slash : List ℕ → Option ℕ → List ℕ
before_slash p None = root
before_slash p (Some i) = if i == 0 then root else take i p

abbrev pub behind_slash : List ℕ → Option ℕ → List ℕ
behind_slash p None = p
behind_slash p (Some i) = drop (i + 1) p

-- what stands before the last slash, or the root where that is nothing
unfoldable pub parent : List ℕ → List ℕ
parent p = before_slash p (last_slash p)

-- what stands behind the last slash
unfoldable pub name : List ℕ → List ℕ
name p = behind_slash p (last_slash p)
