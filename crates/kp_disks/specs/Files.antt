-- What contracts see of a disk over a file (this project's own).
use Rattle.std.specs.Prelude.{ℕ}

-- the count of faults
pub record FilePlate : Type 0 where
  pub faults : ℕ
