-- The nodes behind some effects, and what is known of them without a tree.
use Rattle.std.specs.Prelude.{◌≡◌, ℕ, ◌-◌, min, List, [], ◌∷◌, length, Option, Some, None, unwrap_or, String, string_bytes}
use Rattle.std.specs.Map.{lookup}
use Rattle.std.specs.Str.{bytes_eq}
use Rattle.kp_model.specs.declared.node.Meta.{Meta}
use Rattle.kp_model.specs.Path.{parent}
use Rattle.kp_model.specs.State.{Nodes, blank_node, children, meta_of, meta_at}
use Rattle.kp_model.specs.Step.{shrunk}
use Rattle.kp_draft.specs.declared.draft.Known.{Known}
use Rattle.kp_act.specs.declared.plan.Effect.{Effect}
use Rattle.kp_act.specs.declared.plan.Effect.TheVariants as effect
use Rattle.kp_act.specs.Effects.{without_child_shown}
use Rattle.kp_act.specs.Several.{effected_nodes_by}

-- this is known of a path: what is shown of its node, and how many children it has
pub record IsKnown (nodes : Nodes) (path : List ℕ) (k : Known) : Type 0 where
  pub meta : k.meta ≡ meta_at nodes path
  pub kids : k.kids ≡ length (children nodes path)

-- a path is seen as before
pub record IsSame (nodes now : Nodes) (path : List ℕ) : Type 0 where
  pub meta : meta_at now path ≡ meta_at nodes path
  pub kids : length (children now path) ≡ length (children nodes path)

-- what is kept of a path is known of it now; where nothing is kept, it is seen as before
abbrev pub Tells : Nodes → Nodes → List ℕ → Option Known → Type 0
Tells nodes now path None = IsSame nodes now path
Tells nodes now path (Some k) = IsKnown now path k

module _ {Z : Type 0} where
  -- what is kept of a path
  abbrev pub known_at : List (String Z × Known) → List ℕ → Option Known
  known_at kept path = lookup (λ t. bytes_eq path (string_bytes t)) kept

  -- what is kept tells each path as it is after the effects
  abbrev pub IsDraft : Nodes → List Effect → List (String Z × Known) → Type 0
  IsDraft nodes es kept = (path : List ℕ) → Tells nodes (effected_nodes_by nodes es) path (known_at kept path)

-- the shown numbers of the parent of a node that goes, as they are then
abbrev pub up_left : ℕ → Nodes → List ℕ → Meta
up_left i nodes path = without_child_shown i (min (length (children nodes (parent path)) - 1) 2147483647) (unwrap_or (meta_at nodes (parent path)) (meta_of 0 blank_node))

-- a node of this owner goes
abbrev pub removal : ℕ → ℕ → Nodes → List ℕ → Effect
removal i owner nodes path = effect.Remove path (up_left i nodes path) owner

-- nodes of this owner go, one after the other
unfoldable pub removals : ℕ → ℕ → Nodes → List (List ℕ) → List Effect
removals i owner nodes [] = []
removals i owner nodes (path ∷ paths) = removal i owner nodes path ∷ removals i owner (shrunk nodes i path) paths
