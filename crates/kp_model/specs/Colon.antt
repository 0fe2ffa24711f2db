-- Colons.
use Rattle.std.specs.Prelude.{ℕ, Bool, ◌==◌}

-- the byte `:`
abbrev pub is_colon : ℕ → Bool
is_colon b = b == 58
