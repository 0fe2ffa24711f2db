-- What a connection outside tells, takes and leaves (this project's own).
use Rattle.std.specs.Prelude.{◌≡◌, ◌==◌, ℕ, Bool, true, List, [], ◌++◌}
use Rattle.kp_worker.specs.declared.heard.Heard.{Heard}
use Rattle.kp_worker.specs.Lists.{joined, where_true}

-- a connection of a kind that tells gave these answers, and was handed these bytes
pub record Flows (tells : Bool) (t t' : List Heard) (h h' : List ℕ) (as0 : List Heard) (bytes : List ℕ) : Type 0 where
  pub told : tells ≡ true → t' ≡ t ++ as0
  pub handed : tells ≡ true → h' ≡ h ++ bytes

-- a connection that has told nothing, and that nothing was handed to
pub record IsBlank (tells : Bool) (t : List Heard) (h : List ℕ) : Type 0 where
  pub told : tells ≡ true → t ≡ []
  pub handed : tells ≡ true → h ≡ []

-- what a connection told and took, which was let go, stands behind what those told and took that had its number before
pub record Leaves (tells : Bool) (t t' : ℕ → List Heard) (h h' : ℕ → List ℕ) (conn : ℕ) (as0 : List Heard) (bytes : List ℕ) : Type 0 where
  pub told : tells ≡ true → (c : ℕ) → t' c ≡ t c ++ where_true (conn == c) as0
  pub handed : tells ≡ true → (c : ℕ) → h' c ≡ h c ++ where_true (conn == c) bytes

-- all that these connections tell, joined
abbrev pub all_of : {P B : Type 0} → Bool → (P → List B) → List P → List B
all_of tells list ps = joined (λ p. where_true tells (list p)) ps
