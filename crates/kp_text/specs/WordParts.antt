-- What is left of the words of a multi, part by part.
use Rattle.std.specs.Prelude.{ℕ, ◌+◌, List, [], length, map, Option, Some, None}
use Rattle.std.specs.List.{slice_split}
use Rattle.kp_text.specs.Commands.{is_separator}
use denote.Ref.{Bor}

-- the parts of the words that are left, where there are any
abbrev pub parts_left : Option (Bor (List (Bor (List ℕ)))) → List (List (List ℕ))
parts_left None = []
parts_left (Some ws) = slice_split is_separator (map (λ w. w.now) ws.now)

-- one more than the words that are left, or 0
abbrev pub left_len : Option (Bor (List (Bor (List ℕ)))) → ℕ
left_len None = 0
left_len (Some ws) = length ws.now + 1
