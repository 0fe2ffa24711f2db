-- A batch behind a gate: the gate's byte, which is 1 where it is open, the length of the batch in 32 bits, the batch, and the next gate.
use Rattle.std.specs.Prelude.{ℕ, ◌+◌, ◌⊎◌, List, ◌∷◌, ◌++◌, length, take, drop}
use Rattle.std.specs.Int.{w32, to_be_bytes}
use Rattle.kp_io.specs.Crash.{HasFront, IsButFor}

-- a batch written behind the closed gate, with a closed gate behind it
unfoldable pub staged : ℕ → List ℕ → List ℕ → List ℕ
staged gate body xs = take (gate + 1) xs ++ (to_be_bytes w32 (length body) ++ (body ++ (0 ∷ drop (gate + 6 + length body) xs)))

-- the gate is opened
unfoldable pub opened : ℕ → List ℕ → List ℕ
opened gate xs = take gate xs ++ 1 ∷ drop (gate + 1) xs

-- a batch is added
abbrev pub appended : ℕ → List ℕ → List ℕ → List ℕ
appended gate body xs = opened gate (staged gate body xs)

-- the batch was added behind the closed gate or not, or its gate may hold any number
abbrev pub Appended : ℕ → List ℕ → List ℕ → List ℕ → Type 0
Appended gate body xs c = HasFront (gate + 1) xs c ⊎ IsButFor gate (staged gate body xs) c
