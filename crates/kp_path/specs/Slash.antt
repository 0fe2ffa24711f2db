-- Places of slashes.
use Rattle.std.specs.Prelude.{◌≡◌, ℕ, ◌<◌, List, length, slice_index}

-- a slash stands at this place
abbrev pub IsSlashAt : List ℕ → ℕ → Type 0
IsSlashAt xs i = (i < length xs) × (slice_index xs i ≡ 47)
