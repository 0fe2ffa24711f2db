-- What a session is answered that looks at a node.
use Rattle.std.specs.Prelude.{ℕ, Bool, true, not, ◌||◌, List, Option, Some, None, if◌then◌else◌}
use Rattle.std.specs.FinMap as map
use Rattle.kp_model.specs.declared.node.Node.{Node}
use Rattle.kp_model.specs.declared.read.ReadCmd.{ReadCmd}
use Rattle.kp_model.specs.declared.read.ReadCmd.TheVariants as ask
use Rattle.kp_model.specs.declared.read.ReadReply.{ReadReply}
use Rattle.kp_model.specs.declared.read.ReadReply.TheVariants as answer
use Rattle.kp_model.specs.Errors.{bad_arguments, no_node, no_auth}
use Rattle.kp_model.specs.Path.{is_well_formed}
use Rattle.kp_model.specs.Rights as right
use Rattle.kp_model.specs.Rights.{is_allowed}
use Rattle.kp_model.specs.State.{State, Nodes, stat, kids}
use Rattle.kp_model.specs.Touched.{ids_of}

-- a node that is there is shown to one who may look at it
abbrev pub shown_to : Option Node → (Node → Bool) → (Node → ReadReply) → ReadReply
shown_to None may shown = answer.Err no_node
shown_to (Some n) may shown = if may n then shown n else answer.Err no_auth

-- a look at the node of a path: the first check that fails, in the order in which they are made, or else what is shown
abbrev pub looked : Nodes → List ℕ → (Node → Bool) → (Node → ReadReply) → ReadReply
looked nodes path may shown = if not (is_well_formed path) then answer.Err bad_arguments else shown_to (map.get nodes path) may shown

-- whether a node is there is told to everyone
abbrev pub may_see : Node → Bool
may_see n = true

-- its data and its children are told to one who has the right READ
abbrev pub may_read : List (List ℕ) → Node → Bool
may_read ids n = is_allowed ids n.acl right.read

-- its access list is told to one who has the right READ or ADMIN
abbrev pub may_read_acl : List (List ℕ) → Node → Bool
may_read_acl ids n = is_allowed ids n.acl right.read || is_allowed ids n.acl right.admin

-- what a question of a session is answered on a state, by the ids that the session has shown
unfoldable pub read_answer : State → ℕ → ReadCmd → ReadReply
read_answer s session (ask.Exists path) = looked s.nodes path may_see (λ n. answer.Stat (stat s.nodes path n))
read_answer s session (ask.GetData path) = looked s.nodes path (may_read (ids_of s session)) (λ n. answer.Data n.bytes (stat s.nodes path n))
read_answer s session (ask.GetAcl path) = looked s.nodes path (may_read_acl (ids_of s session)) (λ n. answer.Acl n.acl (stat s.nodes path n))
read_answer s session (ask.GetChildren path) = looked s.nodes path (may_read (ids_of s session)) (λ n. answer.Names (kids s.nodes path) (stat s.nodes path n))
