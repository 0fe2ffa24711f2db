-- What is shown of each node, beside the nodes.
use Rattle.std.specs.Prelude.{◌≡◌, ℕ, ◌≤◌, not, ◌||◌, count_by, List, length, Option, Some, None, is_some, if◌then◌else◌, IsTrue}
use Rattle.std.specs.Str.{bytes_eq}
use Rattle.std.specs.Ordering.{eq_by_cmp}
use Rattle.std.specs.FinMap as map
use Rattle.std.specs.FinMap.{find, put}
use Rattle.std.specs.FinMap.Entries.{where_key}
use Rattle.kp_model.specs.declared.node.Meta.{Meta}
use Rattle.kp_model.specs.declared.node.Node.{Node}
use Rattle.kp_model.specs.Limits.{longest_field}
use Rattle.kp_model.specs.Path.{root, parent}
use Rattle.kp_model.specs.State.{Nodes, path_cmp, is_child, meta_of, meta_at}
use Rattle.kp_cells.specs.Pouring.{one_more}

-- nodes with their paths, and what is shown with its paths
abbrev pub NodeList : Type 0
NodeList = List (List ℕ × Node)

abbrev pub MetaList : Type 0
MetaList = List (List ℕ × Meta)

-- the entries as a finite map
abbrev pub as_map : NodeList → Nodes
as_map nodes = map.from_sorted nodes

-- how many of the nodes are children of a path
abbrev pub child_count : NodeList → List ℕ → ℕ
child_count nodes p = count_by (λ (e : List ℕ × Node). is_child p e.0) nodes

-- what is shown, with the node of one path as it is now
abbrev pub with_shown : NodeList → List ℕ → Option Node → MetaList → MetaList
with_shown nodes p None metas = where_key path_cmp (λ q. not (eq_by_cmp path_cmp p q)) metas
with_shown nodes p (Some n) metas = put path_cmp p (meta_of (child_count nodes p) n) metas

-- the same of a path that was looked up
abbrev pub shown_again : NodeList → List ℕ → MetaList → MetaList
shown_again nodes p metas = with_shown nodes p (find path_cmp p nodes) metas

-- the same of a path and of its parent
abbrev pub both_again : NodeList → List ℕ → MetaList → MetaList
both_again nodes p metas = shown_again nodes (parent p) (shown_again nodes p metas)

-- one child more is shown of a path, where a node is there
abbrev pub raised_at : List ℕ → Option Meta → MetaList → MetaList
raised_at q None metas = metas
raised_at q (Some u) metas = put path_cmp q (one_more u) metas

-- one child more is shown of a path's parent, where the path is new and has one
abbrev pub raised_parent : List ℕ → MetaList → MetaList
raised_parent p metas = if is_some (find path_cmp p metas) || bytes_eq p root then metas else raised_at (parent p) (find path_cmp (parent p) metas) metas

-- nodes in the order of their paths, with data that fits its length field
pub record AreOrdered (nodes : NodeList) : Type 0 where
  pub sorted : IsTrue (map.is_sorted path_cmp nodes)
  pub fits : (q : List ℕ) (n : Node) → map.get (as_map nodes) q ≡ Some n → length n.bytes ≤ longest_field

-- such nodes, and what is shown of each path in the same order
pub record AreShown (nodes : NodeList) (metas : MetaList) : Type 0 where
  pub ordered : AreOrdered nodes
  pub sorted : IsTrue (map.is_sorted path_cmp metas)
  pub shown : (q : List ℕ) → map.get {R = path_cmp} (map.from_sorted metas) q ≡ meta_at (as_map nodes) q
