-- The paths and the sessions that an entry may write at.
use Rattle.std.specs.Prelude.{ℕ, ◌+◌, List, [], ◌∷◌, ◌++◌, map}
use Rattle.std.specs.Option.{option_map_or}
use Rattle.std.specs.FinMap as map
use Rattle.kp_model.specs.declared.session.Session.{Session}
use Rattle.kp_model.specs.declared.command.Op.{Op}
use Rattle.kp_model.specs.declared.command.Op.TheVariants as op
use Rattle.kp_model.specs.declared.command.Cmd.{Cmd}
use Rattle.kp_model.specs.declared.command.Cmd.TheVariants as cmd
use Rattle.kp_model.specs.declared.entry.Body.{Body}
use Rattle.kp_model.specs.declared.entry.Body.TheVariants as body
use Rattle.kp_model.specs.LogEntry.{LogEntry}
use Rattle.kp_model.specs.Path.{parent}
use Rattle.kp_model.specs.State.{State, Nodes, owned}
use Rattle.kp_model.specs.Step.{made_path, act_on}

pub record Touched : Type 0 where
  pub paths : List (List ℕ)
  pub sessions : List ℕ

-- these paths and their parents
abbrev pub with_parents : List (List ℕ) → List (List ℕ)
with_parents ps = ps ++ map parent ps

-- the path that an operation names or makes
abbrev pub path_of_op : Nodes → Op → List ℕ
path_of_op nodes (op.Create path bytes acl flags stat) = made_path nodes path flags
path_of_op nodes (op.Delete path version) = path
path_of_op nodes (op.SetData path bytes version) = path
path_of_op nodes (op.Check path version) = path

-- the paths of a multi's operations, each on the state behind those before it
unfoldable pub paths_of_ops : State → ℕ → List (List ℕ) → ℕ → ℕ → List Op → List (List ℕ)
paths_of_ops s session ids i t [] = []
paths_of_ops s session ids i t (o ∷ ops) = path_of_op s.nodes o ∷ paths_of_ops (act_on s session ids i t o).state session ids i t ops

-- the paths that a command of a session names or makes, but for a multi; a closing stands for those that the session owns
abbrev pub paths_of : Nodes → ℕ → Cmd → List (List ℕ)
paths_of nodes id (cmd.Create path bytes acl flags stat) = made_path nodes path flags ∷ []
paths_of nodes id (cmd.Delete path version) = path ∷ []
paths_of nodes id (cmd.SetData path bytes version) = path ∷ []
paths_of nodes id (cmd.SetAcl path acl version) = path ∷ []
paths_of nodes id (cmd.Check path version) = path ∷ []
paths_of nodes id (cmd.Auth scheme auth) = []
paths_of nodes id (cmd.Multi ops) = []
paths_of nodes id (cmd.Sync path) = path ∷ []
paths_of nodes id cmd.CloseSession = owned nodes id

-- what a command of a session touches: the session, and those paths with their parents
abbrev pub touched_in : State → ℕ → Cmd → Touched
touched_in s session c = record { paths = with_parents (paths_of s.nodes session c); sessions = session ∷ [] }

-- what a body touches: an opening the session that it opens, and an expiry what a closing does
abbrev pub touched_by : State → Body → Touched
touched_by s body.Noop = record { paths = []; sessions = [] }
touched_by s (body.OpenSession timeout passwd origin) = record { paths = []; sessions = s.next ∷ [] }
touched_by s (body.Attach session passwd origin) = record { paths = []; sessions = session ∷ [] }
touched_by s (body.Expire session) = touched_in s session cmd.CloseSession
touched_by s (body.Write session epoch seq c) = touched_in s session c

-- the ids of a session, none where it isn't live
abbrev pub ids_of : State → ℕ → List (List ℕ)
ids_of s session = option_map_or (λ (x : Session). x.ids) (map.get s.sessions session) []

-- the same of a body at index i and time t, where a multi touches what its operations do
abbrev pub touched_at : State → ℕ → ℕ → Body → Touched
touched_at s i t (body.Write session epoch seq (cmd.Multi ops)) = record { paths = with_parents (paths_of_ops s session (ids_of s session) i t ops); sessions = session ∷ [] }
touched_at s i t b = touched_by s b

-- what an entry touches
unfoldable pub touched : State → LogEntry → Touched
touched s e = touched_at s (s.applied + 1) e.time e.body
