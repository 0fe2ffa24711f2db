-- What is seen of a window on a stream of bytes.
use Rattle.std.specs.Prelude.{ℕ, ◌+◌, List, length}

-- the bytes from the place start on, and for how many more there is room
pub record Stretch : Type 0 where
  pub start : ℕ
  pub bytes : List ℕ
  pub room : ℕ

-- the place behind the last byte
abbrev pub end_of : Stretch → ℕ
end_of s = s.start + length s.bytes
