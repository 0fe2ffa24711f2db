-- What a writer of rows has to do with their spellings.
use Rattle.std.specs.Prelude.{◌≡◌, ℕ, List, [], ◌++◌}
use Rattle.std.specs.List.{flat_map}
use Rattle.kp_jute.specs.Form.{Form}
use Rattle.kp_snapshot.specs.Rows.{AreRows}

-- each item fits behind those before it, and their spellings stand one behind the other behind what was written before
pub record WroteRows {A : Type 0} (spell : A → List ℕ) (row : List A → Form A) (xs : List A) (old new : List ℕ) : Type 0 where
  pub fits : AreRows (λ before. (row before).Fits) [] xs
  pub added : new ≡ old ++ flat_map spell xs
