-- A map under layers of writes.
use Rattle.std.specs.Prelude.{◌≡◌, ℕ, ◌+◌, ◌-◌, ◌≤◌, List, [], ◌∷◌, ◌++◌, length, take, drop, sum, refl, Option, Some, None, unwrap_or, IsSome}
use Rattle.std.specs.declared.cmp.Ordering.{Ordering}
use Rattle.std.specs.FinMap as map
use Rattle.std.specs.FinMap.{FinMap}
use Rattle.std.specs.Coded.{Coded, code_by, coded×, coded_list, coded_option}
use Rattle.kp_layers.specs.Overlay.{overlay}

-- the first layer, or no writes where there is none
abbrev pub first_layer : {A : Type 0} → List (List A) → List A
first_layer [] = []
first_layer (ws ∷ layers) = ws

-- a map, the sealed layers over it, the oldest first, and the open layer, if there is one
pub record Layering {K : Type 0} (R : K → K → Ordering) (V : Type 0) : Type 0 where
  pub base : FinMap R V
  pub layers : List (List (K × Option V))
  pub staged : Option (List (K × Option V))

module _ {K : Type 0} {R : K → K → Ordering} {V : Type 0} where
  -- a layering is stored as the triple of its fields
  abbrev pub layering_code : Coded K → Coded V → Coded (Layering R V)
  layering_code k v =
      let writes : Coded (List (K × Option V)) = coded_list (coded× k (coded_option v)) in
      code_by (FinMap R V × (List (List (K × Option V)) × Option (List (K × Option V)))) (coded× (map.code k v) (coded× (coded_list writes) (coded_option writes))) (λ l. (l.base, (l.layers, l.staged))) (λ p. record { base = p.0; layers = p.1.0; staged = p.1.1 }) (λ _. refl)

  -- an empty map with no layers
  abbrev pub empty_layering : Layering R V
  empty_layering = record { base = map.empty; layers = []; staged = None }

  -- the writes of the open layer
  abbrev pub staged_of : Layering R V → List (K × Option V)
  staged_of l = unwrap_or l.staged []

  -- m under the layers, in their order
  abbrev pub overlay_all : FinMap R V → List (List (K × Option V)) → FinMap R V
  overlay_all m [] = m
  overlay_all m (ws ∷ layers) = overlay_all (overlay m ws) layers

  -- the base under all layers, the open one last
  abbrev pub latest_of : Layering R V → FinMap R V
  latest_of l = overlay (overlay_all l.base l.layers) (staged_of l)

  -- with an open layer that has no writes
  abbrev pub begun : Layering R V → Layering R V
  begun l = record { base = l.base; layers = l.layers; staged = Some [] }

  -- with a write more in the open layer
  abbrev pub written : Layering R V → K → Option V → Layering R V
  written l key value = record { base = l.base; layers = l.layers; staged = Some (staged_of l ++ (key, value) ∷ []) }

  -- with the first so many writes of the open layer
  abbrev pub undone : Layering R V → ℕ → Layering R V
  undone l mark = record { base = l.base; layers = l.layers; staged = Some (take mark (staged_of l)) }

  -- with the open layer behind the sealed ones
  abbrev pub sealed : Layering R V → Layering R V
  sealed l = record { base = l.base; layers = l.layers ++ staged_of l ∷ []; staged = None }

  -- without the open layer
  abbrev pub abandoned : Layering R V → Layering R V
  abandoned l = record { base = l.base; layers = l.layers; staged = None }

  -- with the first sealed layer made on the base
  abbrev pub front_committed : Layering R V → Layering R V
  front_committed l = record { base = overlay l.base (first_layer l.layers); layers = drop 1 l.layers; staged = l.staged }

  -- without the last sealed layer
  abbrev pub back_dropped : Layering R V → Layering R V
  back_dropped l = record { base = l.base; layers = take (length l.layers - 1) l.layers; staged = l.staged }

module _ {A : Type 0} where
  -- the writes, cut into layers of the lengths
  abbrev pub cut : List ℕ → List A → List (List A)
  cut [] ws = []
  cut (n ∷ ns) ws = take n ws ∷ cut ns (drop n ws)

  -- the writes behind the sealed layers, where a layer is open
  abbrev pub staged_in : Option ℕ → List A → Option (List A)
  staged_in None ws = None
  staged_in (Some n) ws = Some ws

  -- the lengths are those of the writes, and where a layer is open there is room for one more length
  pub record IsCut (sealed : List ℕ) (count : Option ℕ) (writes : List A) (room : ℕ) : Type 0 where
    pub lengths : sum sealed + unwrap_or count 0 ≡ length writes
    pub has_room : IsSome count → 1 ≤ room

module _ {K : Type 0} {R : K → K → Ordering} {V : Type 0} where
  -- the base, the sealed layers of the lengths, and the open layer, if there is one, behind them
  abbrev pub layering : FinMap R V → List ℕ → Option ℕ → List (K × Option V) → Layering R V
  layering base sealed count writes = record { base = base; layers = cut sealed writes; staged = staged_in count (drop (sum sealed) writes) }
