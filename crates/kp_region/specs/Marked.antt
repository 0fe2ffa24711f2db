-- What a caller sees of a region: a list of byte strings under running marks.
use Rattle.std.specs.Prelude.{ℕ, ◌+◌, ◌-◌, min, nat_lt, if◌then◌else◌, List, [], ◌∷◌, ◌++◌, length, take, drop, slice_get, Option, Some, None, refl}
use Rattle.std.specs.List.{flat_map}
use Rattle.std.specs.Coded.{Coded, code_by, coded×, coded_ℕ, coded_list}

-- the k-th string, counted from 0, has the mark first + k; and for how many further strings, and how many bytes of them, there is room
pub record Marked : Type 0 where
  pub first : ℕ
  pub strings : List (List ℕ)
  pub spare_records : ℕ
  pub spare_bytes : ℕ

-- a region is stored as the four fields
abbrev pub marked_code : Coded Marked
marked_code = code_by (ℕ × (List (List ℕ) × (ℕ × ℕ))) (coded× coded_ℕ (coded× (coded_list (coded_list coded_ℕ)) (coded× coded_ℕ coded_ℕ))) (λ m. (m.first, (m.strings, (m.spare_records, m.spare_bytes)))) (λ p. record { first = p.0; strings = p.1.0; spare_records = p.1.1.0; spare_bytes = p.1.1.1 }) (λ _. refl)

-- no string, no room, and the first mark to be given is 1
abbrev pub no_strings : Marked
no_strings = record { first = 1; strings = []; spare_records = 0; spare_bytes = 0 }

-- the mark that the next string gets, one more than the last
abbrev pub next_mark : Marked → ℕ
next_mark m = m.first + length m.strings

-- the string of the mark, or None where no string has it
abbrev pub string_at : Marked → ℕ → Option (List ℕ)
string_at m mark = if nat_lt mark m.first then None else slice_get m.strings (mark - m.first)

-- the strings of so many marks, one behind the other, of which this mark is the first, or None where not each of these marks is in the list
abbrev pub run_at : Marked → ℕ → ℕ → Option (List ℕ)
run_at m mark count = if nat_lt mark m.first then None else if nat_lt (next_mark m) (mark + count) then None else Some (flat_map (λ s. s) (take count (drop (mark - m.first) m.strings)))

-- with one more string at the back, which uses up its room
abbrev pub with_string : Marked → List ℕ → Marked
with_string m bytes = record m { strings = m.strings ++ bytes ∷ []; spare_records = m.spare_records - 1; spare_bytes = m.spare_bytes - length bytes }

-- without the first string: the others keep their marks
abbrev pub without_first : Marked → Marked
without_first m = record m { first = m.first + min 1 (length m.strings); strings = drop 1 m.strings }

-- without the last string, whose mark is the next one again
abbrev pub without_last : Marked → Marked
without_last m = record m { strings = take (length m.strings - 1) m.strings }
