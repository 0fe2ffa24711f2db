-- Where a key stands among entries in the order of their keys.
use Rattle.std.specs.Prelude.{◌≡◌, ℕ, ◌<◌, ◌≤◌, List, Some, None, Result, Ok, Err, length, slice_set, slice_index_or}
use Rattle.std.specs.declared.cmp.Ordering.{Ordering}
use Rattle.std.specs.declared.cmp.Ordering.TheVariants.{Greater}
use Rattle.std.specs.FinMap.{find, put}
use Rattle.std.specs.List.{insert}
use Rattle.kp_plain.specs.declared.sorted.Place.{Place}
use Rattle.kp_plain.specs.declared.sorted.Place.TheVariants.{At, Before}

-- setting the key writes over the entry at this place, and finding it gives that entry's value; or it puts a new one there, behind those whose keys are below it, and nothing is found
abbrev pub StandsFor : {K V : Type 0} → (K → K → Ordering) → K → List (K × V) → Place → Type 0
StandsFor {K} {V} cmp k es (At i) = (i < length es) × ((v : V) → put cmp k v es ≡ slice_set es i ((slice_index_or es i (k, v)).0, v)) × ((v : V) → find cmp k es ≡ Some (slice_index_or es i (k, v)).1)
StandsFor {K} {V} cmp k es (Before i) = (i ≤ length es) × ((v : V) → put cmp k v es ≡ insert es i (k, v)) × (find cmp k es ≡ None) × ((j : ℕ) (d : K × V) → j < i → cmp k (slice_index_or es j d).0 ≡ Greater)

-- the place that a search tells
abbrev pub place_in : Result ℕ ℕ → Place
place_in (Ok i) = At i
place_in (Err i) = Before i
