-- Which keys are in use: those that have a value in the base or a write over it.
use Rattle.std.specs.Prelude.{ℕ, Bool, ◌||◌, List, [], ◌∷◌, Option}
use Rattle.std.specs.List.{list_any}
use Rattle.std.specs.declared.cmp.Ordering.{Ordering}
use Rattle.std.specs.Ordering.{eq_by_cmp, nat_cmp}
use Rattle.std.specs.FinMap as map
use Rattle.kp_layers.specs.Overlay.{Past}
use Rattle.kp_layers.specs.Layering.{Layering, staged_of}

module _ {K : Type 0} (R : K → K → Ordering) {V : Type 0} where
  -- whether one of the writes gives the key a value or takes it away
  abbrev pub is_written : List (K × Option V) → K → Bool
  is_written ws k = list_any (λ w. eq_by_cmp R k w.0) ws

  -- whether one of the layers has a write of the key
  abbrev pub is_written_in : List (List (K × Option V)) → K → Bool
  is_written_in layers k = list_any (λ ws. is_written ws k) layers

module _ {K : Type 0} {R : K → K → Ordering} {V : Type 0} where
  -- whether the key has a value in the base or a write in a sealed layer or in the open one
  abbrev pub is_used : Layering R V → K → Bool
  is_used l k = map.contains_key l.base k || (is_written_in R l.layers k || is_written R (staged_of l) k)

-- whether the key has a value in the base or a write over it
abbrev pub is_known : {V : Type 0} → Past V → ℕ → Bool
is_known p k = map.contains_key p.base k || is_written nat_cmp p.writes k

-- the last layer, or no writes where there is none
abbrev pub last_layer : {A : Type 0} → List (List A) → List A
last_layer [] = []
last_layer (ws ∷ []) = ws
last_layer (ws ∷ (us ∷ layers)) = last_layer (us ∷ layers)
