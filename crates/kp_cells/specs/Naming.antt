-- Numbers of paths, and layers by those numbers seen as layers by the paths.
use Rattle.std.specs.Prelude.{◌≡◌, ℕ, ◌<◌, List, [], ◌∷◌, map, cond, nat_eq, Option, Some, None, unwrap_or, refl, String, string_bytes}
use Rattle.std.specs.List.{All}
use Rattle.std.specs.Option.{option_map}
use Rattle.std.specs.Ordering.{nat_cmp}
use Rattle.std.specs.Coded.{Coded, code_by, coded×, coded_ℕ}
use Rattle.std.specs.FinMap as fin
use Rattle.std.specs.FinMap.{FinMap}
use Rattle.kp_layers.specs.Overlay.{put}
use Rattle.kp_layers.specs.Layering.{Layering, staged_of}
use Rattle.kp_model.specs.State.{path_cmp}
use Rattle.kp_model.specs.Codes.{bytes_code}

-- the number of each path, and the path of each number
pub record Naming : Type 0 where
  pub numbers : FinMap path_cmp ℕ
  pub texts : FinMap nat_cmp (List ℕ)

abbrev pub naming_code : Coded Naming
naming_code = code_by (FinMap path_cmp ℕ × FinMap nat_cmp (List ℕ)) (coded× (fin.code bytes_code coded_ℕ) (fin.code coded_ℕ bytes_code)) (λ n. (n.numbers, n.texts)) (λ p. record { numbers = p.0; texts = p.1 }) (λ _. refl)

-- no path has a number
abbrev pub no_names : Naming
no_names = record { numbers = fin.empty; texts = fin.empty }

module _ {Z : Type 0} where
  -- the numbers that the entries stand for
  abbrev pub numbers_in : List (String Z × ℕ) → FinMap path_cmp ℕ
  numbers_in [] = fin.empty
  numbers_in (e ∷ es) = fin.insert (numbers_in es) (string_bytes e.0) e.1

  -- the paths that the entries stand for
  abbrev pub texts_in : List (ℕ × String Z) → FinMap nat_cmp (List ℕ)
  texts_in [] = fin.empty
  texts_in (e ∷ es) = fin.insert (texts_in es) e.0 (string_bytes e.1)

-- each map is the other one turned round
pub record IsNaming (names : Naming) : Type 0 where
  pub there : (p : List ℕ) (n : ℕ) → fin.get names.numbers p ≡ Some n → fin.get names.texts n ≡ Some p
  pub back : (p : List ℕ) (n : ℕ) → fin.get names.texts n ≡ Some p → fin.get names.numbers p ≡ Some n

-- every number that is given is below next
abbrev pub AreBelow : ℕ → Naming → Type 0
AreBelow next names = (p : List ℕ) (n : ℕ) → fin.get names.numbers p ≡ Some n → n < next

-- a path that has a number in the old names has it in the new ones
abbrev pub Grows : Naming → Naming → Type 0
Grows old new = (p : List ℕ) (n : ℕ) → fin.get old.numbers p ≡ Some n → fin.get new.numbers p ≡ Some n

-- the number that may be there, unless it is k
abbrev pub without : ℕ → Option ℕ → Option ℕ
without k None = None
without k (Some n) = cond (nat_eq k n) None (Some n)

-- the number is that of a path
abbrev pub Knows : Naming → ℕ → Type 0
Knows names n = (p : List ℕ) × (fin.get names.numbers p ≡ Some n)

-- the path of the number
abbrev pub path_of : Naming → ℕ → List ℕ
path_of names n = unwrap_or (fin.get names.texts n) []

module _ {V : Type 0} where
  -- the map by paths
  abbrev pub by_path_in : List (List ℕ × ℕ) → FinMap nat_cmp V → FinMap path_cmp V
  by_path_in [] m = fin.empty
  by_path_in (e ∷ es) m = put (by_path_in es m) e.0 (fin.get m e.1)

  abbrev pub by_path : Naming → FinMap nat_cmp V → FinMap path_cmp V
  by_path names m = by_path_in (fin.entries names.numbers) m

  -- the writes by paths
  abbrev pub writes_by_path : Naming → List (ℕ × Option V) → List (List ℕ × Option V)
  writes_by_path names ws = map (λ w. (path_of names w.0, w.1)) ws

  -- the layers by paths
  abbrev pub layers_by_path : Naming → Layering nat_cmp V → Layering path_cmp V
  layers_by_path names l = record { base = by_path names l.base; layers = map (writes_by_path names) l.layers; staged = option_map (writes_by_path names) l.staged }

  -- every key that is written is the number of a path
  abbrev pub AreKnown : Naming → List (ℕ × Option V) → Type 0
  AreKnown names ws = All (λ w. Knows names w.0) ws

  -- only numbers of paths are in use
  pub record IsNamed (names : Naming) (l : Layering nat_cmp V) : Type 0 where
    pub base : (n : ℕ) (v : V) → fin.get l.base n ≡ Some v → Knows names n
    pub layers : All (AreKnown names) l.layers
    pub staged : AreKnown names (staged_of l)
