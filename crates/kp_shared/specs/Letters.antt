-- A message that a node sends.
use Rattle.std.specs.Prelude.{ℕ}

-- a message with the number of the node that it is for
abbrev pub Letter : Type 0 → Type 0
Letter M = ℕ × M
