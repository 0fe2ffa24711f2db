-- The sessions that were heard, in their order, and the same as a set.
use Rattle.std.specs.Prelude.{◌≡◌, ◌==◌, ℕ, Bool, not, List}
use Rattle.std.specs.List.{list_any}
use Rattle.std.specs.Ordering.{nat_cmp}
use Rattle.std.specs.BTreeSet.{BTreeSet, contains}
use Rattle.kp_step.specs.Step.{with_spoken}

-- a number is in both or in none
abbrev pub Knows : BTreeSet ℕ → List ℕ → Type 0
Knows known ids = (q : ℕ) → contains nat_cmp known q ≡ list_any (λ i. i == q) ids

-- a session was noted among them, which was new or wasn't
abbrev pub IsNoted : List ℕ → ℕ → Bool → List ℕ → Type 0
IsNoted old id fresh new = (new ≡ with_spoken old id) × (fresh ≡ not (list_any (λ i. i == id) old))
