-- The commands of the store language, as functions that read their words.
use Rattle.std.specs.Prelude.{ℕ, Bool, List, [], ◌∷◌, Option, Some, None, if◌then◌else◌}
use Rattle.std.specs.List.{slice_split}
use Rattle.std.specs.Str.{bytes_eq}
use Rattle.kp_model.specs.Limits.{last_count}
use Rattle.kp_text.specs.Words.{◌>>=◌, number_of, version_of, data_of, path_of}
use Rattle.kp_text.specs.AclWords.{acl_list_of, acl_given_by}
use Rattle.kp_text.specs.declared.command.Operation.{Operation}
use Rattle.kp_text.specs.declared.command.Operation.TheVariants as op
use Rattle.kp_text.specs.declared.command.Command.{Command}
use Rattle.kp_text.specs.declared.command.Command.TheVariants as command
use lib.Chars.{codes}

-- `PATH FLAGS DATA ACL..`
unfoldable pub create_of : List (List ℕ) → Option Operation
create_of (a ∷ b ∷ c ∷ ws) = do
  path ← path_of a
  flags ← number_of last_count b
  bytes ← data_of c
  acl ← acl_given_by ws
  Some (op.Create path flags bytes acl)
create_of _ = None

-- `PATH VERSION`
unfoldable pub delete_of : List (List ℕ) → Option Operation
delete_of (a ∷ b ∷ []) = do
  path ← path_of a
  version ← version_of b
  Some (op.Delete path version)
delete_of _ = None

-- `PATH DATA VERSION`
unfoldable pub set_of : List (List ℕ) → Option Operation
set_of (a ∷ b ∷ c ∷ []) = do
  path ← path_of a
  bytes ← data_of b
  version ← version_of c
  Some (op.Set path bytes version)
set_of _ = None

-- `PATH VERSION`
unfoldable pub check_of : List (List ℕ) → Option Operation
check_of (a ∷ b ∷ []) = do
  path ← path_of a
  version ← version_of b
  Some (op.Check path version)
check_of _ = None

-- the operation that a name and the words behind it are
unfoldable pub operation_of : List ℕ → List (List ℕ) → Option Operation
operation_of name ws =
    if bytes_eq name (codes "create") then create_of ws
    else (if bytes_eq name (codes "delete") then delete_of ws
    else (if bytes_eq name (codes "set") then set_of ws
    else (if bytes_eq name (codes "check") then check_of ws else None)))

-- `PATH VERSION ACL..`
unfoldable pub setacl_of : List (List ℕ) → Option Command
setacl_of (a ∷ b ∷ ws) = do
  path ← path_of a
  version ← version_of b
  acl ← acl_list_of ws
  Some (command.SetAcl path version acl)
setacl_of _ = None

-- `SCHEME HEX`
unfoldable pub auth_of : List (List ℕ) → Option Command
auth_of (a ∷ b ∷ []) = do
  scheme ← path_of a
  auth ← data_of b
  Some (command.Auth scheme auth)
auth_of _ = None

-- `PATH`
unfoldable pub sync_of : List (List ℕ) → Option Command
sync_of (a ∷ []) = path_of a >>= λ path. Some (command.Sync path)
sync_of _ = None

-- no word
unfoldable pub close_of : List (List ℕ) → Option Command
close_of [] = Some command.Close
close_of (w ∷ ws) = None

-- in a multi each word `;` parts two operations
abbrev pub is_separator : List ℕ → Bool
is_separator w = bytes_eq w (codes ";")

-- the operation that words are: its name first
abbrev pub operation_in : List (List ℕ) → Option Operation
operation_in [] = None
operation_in (name ∷ ws) = operation_of name ws

unfoldable pub operations_of : List (List (List ℕ)) → Option (List Operation)
operations_of [] = Some []
operations_of (part ∷ parts) = do
  o ← operation_in part
  more ← operations_of parts
  Some (o ∷ more)

-- `OP ; OP`, or no word
unfoldable pub multi_of : List (List ℕ) → Option Command
multi_of [] = Some (command.Multi [])
multi_of (w ∷ ws) = operations_of (slice_split is_separator (w ∷ ws)) >>= λ operations. Some (command.Multi operations)

-- a command that a multi may hold too
unfoldable pub single_of : List ℕ → List (List ℕ) → Option Command
single_of name ws = operation_of name ws >>= λ o. Some (command.Operation o)

-- the command that a name and the words behind it are
unfoldable pub command_of : List ℕ → List (List ℕ) → Option Command
command_of name ws =
    if bytes_eq name (codes "setacl") then setacl_of ws
    else (if bytes_eq name (codes "auth") then auth_of ws
    else (if bytes_eq name (codes "multi") then multi_of ws
    else (if bytes_eq name (codes "sync") then sync_of ws
    else (if bytes_eq name (codes "close") then close_of ws
    else single_of name ws))))
