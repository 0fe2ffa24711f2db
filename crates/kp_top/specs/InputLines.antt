-- How the input falls into lines.
use Rattle.std.specs.Prelude.{ℕ, Bool, ◌==◌, List, [], ◌∷◌, if◌then◌else◌}
use Rattle.std.specs.List.{slice_split}
use Rattle.kp_model.specs.Path.{is_empty}

abbrev pub is_feed : ℕ → Bool
is_feed b = b == 10

-- the parts, without a last one that is empty
abbrev pub without_empty_last : List (List ℕ) → List (List ℕ)
without_empty_last [] = []
without_empty_last (x ∷ []) = if is_empty x then [] else x ∷ []
without_empty_last (x ∷ y ∷ more) = x ∷ without_empty_last (y ∷ more)

-- the lines of a text: each ends with a line feed, and a last one without it counts where it isn't empty
unfoldable pub lines_of : List ℕ → List (List ℕ)
lines_of text = without_empty_last (slice_split is_feed text)
