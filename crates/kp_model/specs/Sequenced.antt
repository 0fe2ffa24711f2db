-- Paths of nodes that are made with a running number.
use Rattle.std.specs.Prelude.{ℕ, ◌-◌, List, ◌++◌, length, replicate}
use Rattle.std.specs.Fmt.{decimal}

-- n in decimal, with zeros in front up to ten digits (48 is `0`)
abbrev pub ten_digits : ℕ → List ℕ
ten_digits n = replicate (10 - length (decimal n)) 48 ++ decimal n

-- the path with its running number behind it
unfoldable pub sequenced : List ℕ → ℕ → List ℕ
sequenced path n = path ++ ten_digits n
