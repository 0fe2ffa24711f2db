-- The tree of deadlines: node i has the children 2 * i + 1 and 2 * i + 2, where there are so many nodes.
use Rattle.std.specs.Prelude.{◌≡◌, ◌≢◌, ℕ, ◌+◌, ◌*◌, min, List, map, Option, Some, None}
use Rattle.std.specs.List.{slice_get}
use Rattle.kp_expiry.specs.declared.tree.Slot.{Slot}

-- the deadline and the session of a slot
abbrev pub tag : Slot → ℕ × ℕ
tag s = (s.deadline, s.session)

-- the deadlines and sessions of the nodes
abbrev pub tags : List Slot → List (ℕ × ℕ)
tags slots = map tag slots

-- what the nodes say of the least deadlines
abbrev pub leasts : List Slot → List ℕ
leasts slots = map (λ (s : Slot). s.least) slots

-- the earlier of a deadline and what a child says, if there is a child
abbrev pub earlier : ℕ → Option ℕ → ℕ
earlier d None = d
earlier d (Some l) = min d l

-- the least of the node's own deadline and what its children say
abbrev pub least_of : List ℕ → ℕ → ℕ → ℕ
least_of ls node d = earlier (earlier d (slice_get ls (2 * node + 1))) (slice_get ls (2 * node + 2))

-- the node, if there is such a node, says the least of its own deadline and what its children say
abbrev pub IsRightIn : List (ℕ × ℕ) → List ℕ → ℕ → Type 0
IsRightIn ts ls node = (t : ℕ × ℕ) (l : ℕ) → slice_get ts node ≡ Some t → slice_get ls node ≡ Some l → l ≡ least_of ls node t.0

-- the same of slots
abbrev pub IsRight : List Slot → ℕ → Type 0
IsRight slots node = IsRightIn (tags slots) (leasts slots) node

-- each node is right
abbrev pub AreRight : List Slot → Type 0
AreRight slots = (j : ℕ) → IsRight slots j

-- each other node is right
abbrev pub AreRightBut : List Slot → ℕ → Type 0
AreRightBut slots node = (j : ℕ) → j ≢ node → IsRight slots j

-- each node but the parent is right
abbrev pub AreRightAbove : List Slot → ℕ → Type 0
AreRightAbove slots node = (j : ℕ) → 2 * j + 1 ≢ node → 2 * j + 2 ≢ node → IsRight slots j
