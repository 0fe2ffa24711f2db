-- What is known of the nodes behind the operations of a multi, without a tree.
use Rattle.std.specs.Prelude.{◌≡◌, ℕ, ◌+◌, ◌-◌, cond, List, length, Option, Some, None, unwrap_or, String, string_bytes}
use Rattle.std.specs.Map.{lookup}
use Rattle.std.specs.Str.{bytes_eq}
use Rattle.kp_model.specs.declared.node.Acl.{Acl}
use Rattle.kp_model.specs.declared.node.Meta.{Meta}
use Rattle.kp_model.specs.Path.{parent}
use Rattle.kp_model.specs.State.{Nodes, children, meta_at, acl_at}
use Rattle.kp_draft.specs.declared.draft.Known.{Known}
use Rattle.kp_act.specs.declared.plan.Effect.{Effect}
use Rattle.kp_act.specs.declared.plan.Effect.TheVariants as effect
use Rattle.kp_draft.specs.Drafts.{IsDraft, known_at}
use Rattle.kp_act.specs.Effects.{effected_nodes}
use Rattle.kp_act.specs.Several.{effected_nodes_by}

-- how many children a path has
abbrev pub brood : Nodes → List ℕ → ℕ
brood nodes q = length (children nodes q)

-- what is shown of a path behind an effect, as the effect tells it
abbrev pub meta_behind : Nodes → Effect → List ℕ → Option Meta
meta_behind nodes effect.Nothing q = meta_at nodes q
meta_behind nodes (effect.Make path bytes acl meta up) q = cond (bytes_eq path q) (Some meta) (cond (bytes_eq (parent path) q) (Some up) (meta_at nodes q))
meta_behind nodes (effect.Remove path up owner) q = cond (bytes_eq path q) None (cond (bytes_eq (parent path) q) (Some up) (meta_at nodes q))
meta_behind nodes (effect.Set path bytes meta) q = cond (bytes_eq path q) (Some meta) (meta_at nodes q)
meta_behind nodes (effect.SetAcl path acl meta) q = cond (bytes_eq path q) (Some meta) (meta_at nodes q)

-- how many children a path has behind an effect
abbrev pub brood_behind : Nodes → Effect → List ℕ → ℕ
brood_behind nodes effect.Nothing q = brood nodes q
brood_behind nodes (effect.Make path bytes acl meta up) q = cond (bytes_eq (parent path) q) (brood nodes q + 1) (brood nodes q)
brood_behind nodes (effect.Remove path up owner) q = cond (bytes_eq (parent path) q) (brood nodes q - 1) (brood nodes q)
brood_behind nodes (effect.Set path bytes meta) q = brood nodes q
brood_behind nodes (effect.SetAcl path acl meta) q = brood nodes q

-- the access list of a path behind an effect
abbrev pub acl_behind : Nodes → Effect → List ℕ → Option (List Acl)
acl_behind nodes effect.Nothing q = acl_at nodes q
acl_behind nodes (effect.Make path bytes acl meta up) q = cond (bytes_eq path q) (Some acl) (acl_at nodes q)
acl_behind nodes (effect.Remove path up owner) q = cond (bytes_eq path q) None (acl_at nodes q)
acl_behind nodes (effect.Set path bytes meta) q = acl_at nodes q
acl_behind nodes (effect.SetAcl path acl meta) q = cond (bytes_eq path q) (Some acl) (acl_at nodes q)

-- behind the effect each path is as the effect tells it
pub record Tells (nodes : Nodes) (e : Effect) : Type 0 where
  pub metas : (q : List ℕ) → meta_at (effected_nodes nodes e) q ≡ meta_behind nodes e q
  pub broods : (q : List ℕ) → brood (effected_nodes nodes e) q ≡ brood_behind nodes e q
  pub acls : (q : List ℕ) → acl_at (effected_nodes nodes e) q ≡ acl_behind nodes e q

module _ {Z : Type 0} where
  -- the list that is kept of a path, None inside where its node went
  abbrev pub list_at : List (String Z × Option (List Acl)) → List ℕ → Option (Option (List Acl))
  list_at lists path = lookup (λ t. bytes_eq path (string_bytes t)) lists

  -- what is kept of a path and of another one
  abbrev pub Notes : List (String Z × Known) → List (String Z × Known) → List ℕ → Known → List ℕ → Known → Type 0
  Notes old new path here up above = (q : List ℕ) → known_at new q ≡ cond (bytes_eq path q) (Some here) (cond (bytes_eq up q) (Some above) (known_at old q))

  -- what is kept of a path
  abbrev pub NotesOne : List (String Z × Known) → List (String Z × Known) → List ℕ → Known → Type 0
  NotesOne old new path here = (q : List ℕ) → known_at new q ≡ cond (bytes_eq path q) (Some here) (known_at old q)

  -- the list that is kept of a path
  abbrev pub Lists : List (String Z × Option (List Acl)) → List (String Z × Option (List Acl)) → List ℕ → Option (List Acl) → Type 0
  Lists old new path acl = (q : List ℕ) → list_at new q ≡ cond (bytes_eq path q) (Some acl) (list_at old q)

  -- what is kept tells each path as it is behind the effects
  pub record IsBehind (nodes : Nodes) (es : List Effect) (kept : List (String Z × Known)) (lists : List (String Z × Option (List Acl))) : Type 0 where
    pub draft : IsDraft nodes es kept
    pub acls : (q : List ℕ) → unwrap_or (list_at lists q) (acl_at nodes q) ≡ acl_at (effected_nodes_by nodes es) q
