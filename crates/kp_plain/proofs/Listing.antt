-- Lists of paths.
use Rattle.std.proofs.Common.{◌≡◌, ℕ, ◌+◌, ◌<◌, Bool, true, cond, List, [], ◌∷◌, ◌++◌, length, take, get_or, refl, ap, sym, ◌∙◌}
use Rattle.std.specs.Prelude.{map}
use Rattle.std.specs.List.{filter}
use Rattle.std.proofs.lemmas.List.{take_more, map-append}
use Rattle.std.proofs.lemmas.List.Elements.{filter-append}
use Rattle.kp_model.specs.declared.node.Node.{Node}
use Rattle.kp_model.specs.State.{Nodes}
use Rattle.kp_plain.specs.Beside.{NodeList}
use Rattle.kp_plain.specs.Picked.{picks}
use Rattle.kp_plain.specs.declared.pick.Pick.TheVariants as pick

all_kept : {X : Type 0} (xs : List X) → filter (λ _. true) xs ≡ xs
all_kept [] = refl
all_kept (x ∷ xs) = ap (◌∷◌ x) (all_kept xs)

-- all paths are picked
pub every : (nodes : Nodes) (paths : List (List ℕ)) → filter (picks nodes pick.Every) paths ≡ paths
every nodes paths = all_kept paths

-- the paths of entries
abbrev pub paths_in : NodeList → List (List ℕ)
paths_in items = map (λ e. e.0) items

-- one entry more is looked at
pub picked_more : (p : List ℕ → Bool) (items : NodeList) (i : ℕ) (e : List ℕ × Node) → i < length items → e ≡ get_or items i e
    → filter p (paths_in (take (i + 1) items)) ≡ filter p (paths_in (take i items)) ++ cond (p e.0) (e.0 ∷ []) []
picked_more p items i e lt at =
    ap (λ xs. filter p (paths_in xs)) (take_more items i e lt ∙ ap (λ x. take i items ++ x ∷ []) (sym at))
    ∙ ap (filter p) (map-append (λ e. e.0) (take i items) (e ∷ []))
    ∙ filter-append p (paths_in (take i items)) (e.0 ∷ [])
