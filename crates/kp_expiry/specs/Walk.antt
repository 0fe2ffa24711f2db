-- The deadlines that have come, and the nodes at or below which there is one.
use Rattle.std.specs.Prelude.{ℕ, Bool, false, cond, nat_le, List, [], ◌∷◌, Option, Some, None}
use Rattle.std.specs.List.{slice_get}
use Rattle.kp_expiry.specs.declared.tree.Slot.{Slot}
use Rattle.kp_expiry.specs.Nodes.{tags, leasts}

-- whether the least deadline, if there is one, has come
abbrev pub warm_in : ℕ → Option ℕ → Bool
warm_in now None = false
warm_in now (Some l) = nat_le l now

-- whether a deadline at the node or below it has come
abbrev pub is_warm : List Slot → ℕ → ℕ → Bool
is_warm slots now node = warm_in now (slice_get (leasts slots) node)

-- the node, if a deadline at or below it has come
abbrev pub warm_at : List Slot → ℕ → ℕ → List ℕ
warm_at slots now node = cond (is_warm slots now node) (node ∷ []) []

-- whether the deadline of the pair has come
abbrev pub has_come : ℕ → ℕ × ℕ → Bool
has_come now t = nat_le t.0 now

-- the pair, if there is one and its deadline has come
abbrev pub come_in : ℕ → Option (ℕ × ℕ) → List (ℕ × ℕ)
come_in now None = []
come_in now (Some t) = cond (has_come now t) (t ∷ []) []

-- the node's deadline and session, if the deadline has come
abbrev pub come_at : List Slot → ℕ → ℕ → List (ℕ × ℕ)
come_at slots now node = come_in now (slice_get (tags slots) node)
