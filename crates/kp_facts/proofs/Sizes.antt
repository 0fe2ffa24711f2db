-- The lengths of what is at each path are those of the entries.
use Rattle.std.proofs.Common.{◌≡◌, ℕ, ◌+◌, List, [], ◌∷◌, cond, Some, refl, ap, ◌∙◌, length}
use Rattle.std.specs.Prelude.{map, sum}
use Rattle.std.specs.List.{AllByRecursion}
use Rattle.std.specs.Option.{option_map, option_map_or}
use Rattle.std.specs.Map.{lookup}
use Rattle.std.specs.Ordering.{eq_by_cmp}
use Rattle.std.proofs.lemmas.Cmp.{nat_list_cmp_total}
use Rattle.std.specs.FinMap as fin
use Rattle.std.specs.FinMap.{find}
use Rattle.kp_model.specs.declared.node.Node.{Node}
use Rattle.kp_model.specs.State.{State, Nodes, path_cmp, bytes_at}
use Rattle.kp_layers.proofs.Listed.{sorted_keys}
use Rattle.kp_facts.specs.Tree.{size_of, size_at, size_in}
use Rattle.kp_facts.proofs.Grouped.{found_all}

pub find_is : (q : List ℕ) (es : List (List ℕ × Node)) → find path_cmp q es ≡ lookup (eq_by_cmp path_cmp q) es
find_is q [] = refl
find_is q (e ∷ es) = ap (cond (eq_by_cmp path_cmp q e.0) (Some e.1)) (find_is q es)

sizes : (nodes : Nodes) (es : List (List ℕ × Node)) → AllByRecursion (λ e. lookup (eq_by_cmp path_cmp e.0) (fin.entries nodes) ≡ Some e.1) es → map (size_at nodes) (map (λ e. e.0) es) ≡ map size_of es
unfolding bytes_at
sizes nodes [] h = refl
sizes nodes (e ∷ es) h =
    let found : fin.get nodes e.0 ≡ Some e.1 = fin.get-entries nodes e.0 ∙ find_is e.0 (fin.entries nodes) ∙ h.0 in
    λ i. (length e.0 + ap (λ r. option_map_or length (option_map (λ (n : Node). n.bytes) r) 0) found i) ∷ sizes nodes es h.1 i

pub all_sizes : (s : State) → sum (map (size_at s.nodes) (fin.keys s.nodes)) ≡ size_in s
all_sizes s = ap sum (sizes s.nodes (fin.entries s.nodes) (found_all path_cmp nat_list_cmp_total (fin.entries s.nodes) (sorted_keys path_cmp (fin.entries s.nodes) (fin.entries_sorted s.nodes))))
