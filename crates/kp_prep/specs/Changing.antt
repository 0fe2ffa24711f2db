-- Changes that are set in a state, and those of an effect and of a plan.
use Rattle.std.specs.Prelude.{ℕ, Bool, true, List, [], ◌∷◌, ◌++◌, length, Option, Some, None}
use Rattle.std.specs.Option.{option_map}
use Rattle.std.specs.FinMap as map
use Rattle.kp_model.specs.declared.node.Acl.{Acl}
use Rattle.kp_model.specs.declared.node.Meta.{Meta}
use Rattle.kp_model.specs.declared.node.Node.{Node}
use Rattle.kp_model.specs.declared.session.Session.{Session}
use Rattle.kp_model.specs.Grammar.{is_length}
use Rattle.kp_model.specs.Path.{parent}
use Rattle.kp_model.specs.Poured.{node_of, with_node, with_session}
use Rattle.kp_model.specs.State.{State, Nodes}
use Rattle.kp_cells.specs.declared.change.NodeValue.{NodeValue}
use Rattle.kp_cells.specs.declared.change.Change.{Change}
use Rattle.kp_cells.specs.declared.change.Change.TheVariants as change
use Rattle.kp_act.specs.declared.plan.Effect.{Effect}
use Rattle.kp_act.specs.declared.plan.Effect.TheVariants as effect
use Rattle.kp_act.specs.Effects.{effected_nodes}
use Rattle.kp_act.specs.declared.plan.Plan.{Plan}

-- the state with the node at a path set, or without it
abbrev pub node_set : State → List ℕ → Option NodeValue → State
node_set s p None = record s { nodes = map.remove s.nodes p }
node_set s p (Some v) = with_node s p (node_of v.bytes v.acl v.meta)

-- the state with the session of a number set, or without it
abbrev pub session_set : State → ℕ → Option Session → State
session_set s id None = record s { sessions = map.remove s.sessions id }
session_set s id (Some x) = with_session s id x

-- the state with one change set
abbrev pub set_one : State → Change → State
set_one s (change.Node p v) = node_set s p v
set_one s (change.Session id x) = session_set s id x
set_one s (change.NextSession n) = record s { next = n }

-- the state with all changes set, in their order
unfoldable pub set_all : State → List Change → State
set_all s [] = s
set_all s (c ∷ cs) = set_all (set_one s c) cs

-- the data of a node that is set fits its length field
abbrev pub fits_value : Option NodeValue → Bool
fits_value None = true
fits_value (Some v) = is_length (length v.bytes)

-- the data of a change fits its length field
abbrev pub fits_change : Change → Bool
fits_change (change.Node p v) = fits_value v
fits_change (change.Session id x) = true
fits_change (change.NextSession n) = true

-- a node with other numbers, where there is one
abbrev pub renumbered_value : Meta → Option Node → Option NodeValue
renumbered_value m o = option_map (λ n. record { bytes = n.bytes; acl = n.acl; meta = m }) o

-- a node with other data and numbers, where there is one
abbrev pub refilled_value : List ℕ → Meta → Option Node → Option NodeValue
refilled_value bytes m o = option_map (λ n. record { bytes = bytes; acl = n.acl; meta = m }) o

-- a node with another list and numbers, where there is one
abbrev pub relisted_value : List Acl → Meta → Option Node → Option NodeValue
relisted_value acl m o = option_map (λ n. record { bytes = n.bytes; acl = acl; meta = m }) o

-- a node is set, where there is a value for it
abbrev pub node_changes : List ℕ → Option NodeValue → List Change
node_changes p None = []
node_changes p (Some v) = change.Node p (Some v) ∷ []

-- the changes of an effect on these nodes
abbrev pub effect_changes : Nodes → Effect → List Change
effect_changes nodes effect.Nothing = []
effect_changes nodes (effect.Make path bytes acl meta up) =
    node_changes (parent path) (renumbered_value up (map.get nodes (parent path))) ++ change.Node path (Some (record { bytes = bytes; acl = acl; meta = meta })) ∷ []
effect_changes nodes (effect.Remove path up owner) =
    node_changes (parent path) (renumbered_value up (map.get nodes (parent path))) ++ change.Node path None ∷ []
effect_changes nodes (effect.Set path bytes meta) = node_changes path (refilled_value bytes meta (map.get nodes path))
effect_changes nodes (effect.SetAcl path acl meta) = node_changes path (relisted_value acl meta (map.get nodes path))

-- the change of a session that is set, or that goes
abbrev pub session_changes : Option (ℕ × Option Session) → List Change
session_changes None = []
session_changes (Some x) = change.Session x.0 x.1 ∷ []

-- the change of the next session number
abbrev pub next_changes : Option ℕ → List Change
next_changes None = []
next_changes (Some n) = change.NextSession n ∷ []

-- the changes of all effects, of each on the nodes after those before it
unfoldable pub effects_changes : Nodes → List Effect → List Change
effects_changes nodes [] = []
effects_changes nodes (e ∷ es) = effect_changes nodes e ++ effects_changes (effected_nodes nodes e) es

-- the changes of a plan on these nodes
abbrev pub plan_changes : Nodes → Plan → List Change
plan_changes nodes p = (session_changes p.session ++ next_changes p.next) ++ effects_changes nodes p.effects
