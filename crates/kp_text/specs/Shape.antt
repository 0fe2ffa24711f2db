-- The shape of a line's words, as it shows before they are read. Only private functions cite this file.
use Rattle.std.specs.Prelude.{ℕ, Bool, false, not, ◌&&◌, ◌||◌, List, Option, Some, None, slice_get, is_none, if◌then◌else◌}
use Rattle.std.specs.List.{list_all}
use Rattle.std.specs.Str.{bytes_eq}
use Rattle.kp_model.specs.Path.{is_empty}
use lib.Chars.{codes}

-- no word is empty
abbrev pub are_written : List (List ℕ) → Bool
are_written ws = list_all (λ w. not (is_empty w)) ws

-- eight words at most: `raw S EPOCH SEQ set PATH DATA VERSION` has as many, and no line without a list has more
abbrev pub are_few : List (List ℕ) → Bool
are_few ws = is_none (slice_get ws 8)

-- a command of this name takes a list of access rules or of operations, and so any number of words
abbrev pub takes_list : List ℕ → Bool
takes_list name = bytes_eq name (codes "create") || (bytes_eq name (codes "setacl") || bytes_eq name (codes "multi"))

abbrev pub is_raw : Option (List ℕ) → Bool
is_raw None = false
is_raw (Some name) = bytes_eq name (codes "raw")

abbrev pub is_of_list : Option (List ℕ) → Bool
is_of_list None = false
is_of_list (Some name) = takes_list name

-- the command's name is the first word, and the fifth of a `raw` line
abbrev pub have_list : List (List ℕ) → Bool
have_list ws = if is_raw (slice_get ws 0) then is_of_list (slice_get ws 4) else is_of_list (slice_get ws 0)

-- words that may be a line
abbrev pub may_be_line : List (List ℕ) → Bool
may_be_line ws = (have_list ws || are_few ws) && are_written ws
