-- Which paths a listing takes.
use Rattle.std.specs.Prelude.{◌≡◌, ℕ, Bool, true, false, cond, List, Option, Some, None}
use Rattle.std.specs.Option.{option_map_or, option_and_then}
use Rattle.std.specs.Str.{bytes_eq}
use Rattle.std.specs.Ordering.{nat_cmp}
use Rattle.std.specs.declared.cmp.Ordering.{Ordering}
use Rattle.std.specs.FinMap as fin
use Rattle.std.specs.FinMap.{FinMap}
use Rattle.kp_layers.specs.Layering.{Layering, latest_of}
use Rattle.kp_model.specs.declared.node.Meta.{Meta}
use Rattle.kp_model.specs.State.{path_cmp}
use Rattle.kp_cells.specs.Naming.{Naming}
use Rattle.kp_cells.specs.Traced.{is_in}

-- what a part has: under all layers, or below them
abbrev pub side_of : {K : Type 0} {R : K → K → Ordering} {V : Type 0} → Bool → Layering R V → FinMap R V
side_of latest l = cond latest (latest_of l) l.base

-- which paths and nodes a listing takes
abbrev pub Test : Type 0
Test = List ℕ → Meta → Bool

abbrev pub one_passing : Test → List ℕ → Option Meta → Option (List ℕ)
one_passing f p None = None
one_passing f p (Some m) = cond (f p m) (Some p) None

abbrev pub passing_path : Test → Option Meta → Option (List ℕ) → Option (List ℕ)
passing_path f r None = None
passing_path f r (Some p) = one_passing f p r

-- the path of a number, where there is a node that the test takes
abbrev pub taken : Test → Naming → FinMap nat_cmp Meta → ℕ → Option (List ℕ)
taken f names metas n = passing_path f (fin.get metas n) (fin.get names.texts n)

-- whether the test takes the node of a path
abbrev pub takes : Test → Naming → FinMap nat_cmp Meta → List ℕ → Bool
takes f names metas q = option_map_or (f q) (option_and_then (fin.get metas) (fin.get names.numbers q)) false

-- the number of each path that the test takes is among those
abbrev pub AreAmong : Test → Naming → FinMap nat_cmp Meta → List ℕ → Type 0
AreAmong f names metas ns = (q : List ℕ) (n : ℕ) → fin.get names.numbers q ≡ Some n → takes f names metas q ≡ true → is_in n ns ≡ true

-- whether the test takes what the map has at a path
abbrev pub passes : Test → FinMap path_cmp Meta → List ℕ → Bool
passes f metas q = option_map_or (f q) (fin.get metas q) false

-- whether q is the path that may be there
abbrev pub is_the : List ℕ → Option (List ℕ) → Bool
is_the q r = option_map_or (bytes_eq q) r false
