-- The nodes that a session owns, and what its end does.
use Rattle.std.specs.Prelude.{◌≡◌, ℕ, false, ◌==◌, List, Some, None}
use Rattle.std.specs.List.{AllByRecursion, IsDistinct, flat_map}
use Rattle.std.specs.Ordering.{eq_by_cmp}
use Rattle.std.specs.FinMap as map
use Rattle.kp_model.specs.declared.node.Node.{Node}
use Rattle.kp_model.specs.declared.reply.Reply.TheVariants as reply
use Rattle.kp_model.specs.Good.{IsPersistent}
use Rattle.kp_model.specs.Path.{parent}
use Rattle.kp_model.specs.State.{Nodes, path_cmp}
use Rattle.kp_model.specs.Step.{removal_events}
use Rattle.kp_act.specs.declared.plan.Plan.{Plan}
use Rattle.kp_draft.specs.Drafts.{removals}
use Rattle.kp_act.specs.Effects.{IsFamily}

-- a node of this owner, below one that may have children
pub record IsLeaf (nodes : Nodes) (id : ℕ) (path : List ℕ) : Type 0 where
  pub node : Node
  pub there : map.get nodes path ≡ Some node
  pub owner : node.owner ≡ id
  pub up : Node
  pub above : map.get nodes (parent path) ≡ Some up
  pub persistent : IsPersistent up
  pub family : IsFamily path

-- nodes of this owner, each once
pub record AreLeaves (nodes : Nodes) (id : ℕ) (paths : List (List ℕ)) : Type 0 where
  pub live : (id == 0) ≡ false
  pub leaves : AllByRecursion (IsLeaf nodes id) paths
  pub apart : IsDistinct (eq_by_cmp path_cmp) paths

-- nodes of this owner go, and then its session
abbrev pub closing_plan : ℕ → ℕ → Nodes → List (List ℕ) → Plan
closing_plan i id nodes paths = record {
  prepared = record { reply = reply.Done; events = flat_map removal_events paths };
  session = Some (id, None);
  next = None;
  effects = removals i id nodes paths;
}
