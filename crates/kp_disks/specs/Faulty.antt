-- What contracts see of a disk in memory that fails or stops where it is told to (this project's own).
use Rattle.std.specs.Prelude.{◌≡◌, ℕ, ◌+◌, ◌<◌, ◌⊎◌, nat_eq, cond, List, [], ◌∷◌, Option, Some, None, slice_get, Contains}
use Rattle.kp_io.specs.Crash.{Past}
use Rattle.kp_io.specs.Faults.{one_more}

-- what it holds, what a crash may leave, and the count of faults; the numbers of its own calls that are to fail, counted
-- from 1; the last moment of the home at which a call begins; and how many calls there were
pub record FaultyPlate : Type 0 where
  pub held : List ℕ
  pub past : Past
  pub faults : ℕ
  pub failing : List ℕ
  pub stop : ℕ
  pub calls : ℕ

-- the next call is to fail, where it is this moment of the home
abbrev pub IsToFail : FaultyPlate → ℕ → Type 0
IsToFail d moment = Contains d.failing (one_more d.calls) ⊎ (d.stop < moment)

-- what it holds and what a crash may leave are as they were
pub record IsUntouched (old new : FaultyPlate) : Type 0 where
  pub held : new.held ≡ old.held
  pub past : new.past ≡ old.past

-- a byte as it was at the last sync, or another one in its place
abbrev pub torn_byte : ℕ → Option ℕ → ℕ → ℕ
torn_byte fill None byte = fill
torn_byte fill (Some same) byte = cond (nat_eq same byte) byte fill

-- bytes from a place on, with another byte in the place of each that is not as it was at the last sync
abbrev pub torn_from : ℕ → List ℕ → ℕ → List ℕ → List ℕ
torn_from fill safe at [] = []
torn_from fill safe at (x ∷ xs) = torn_byte fill (slice_get safe at) x ∷ torn_from fill safe (at + 1) xs

abbrev pub torn : ℕ → List ℕ → List ℕ → List ℕ
torn fill safe xs = torn_from fill safe 0 xs
