-- What the commands of lines ask for.
use Rattle.std.specs.Prelude.{false, List, map, Option, Some, None}
use Rattle.kp_model.specs.declared.node.Acl.{Acl}
use Rattle.kp_model.specs.declared.command.Cmd.{Cmd}
use Rattle.kp_model.specs.declared.command.Cmd.TheVariants as cmd
use Rattle.kp_model.specs.declared.command.Op.{Op}
use Rattle.kp_model.specs.declared.command.Op.TheVariants as nested
use Rattle.kp_model.specs.State.{open_acl}
use Rattle.kp_text.specs.declared.command.Operation.{Operation}
use Rattle.kp_text.specs.declared.command.Operation.TheVariants as op
use Rattle.kp_text.specs.declared.command.Command.{Command}
use Rattle.kp_text.specs.declared.command.Command.TheVariants as command

-- the access list of a creation: every right for everyone where none is given
abbrev pub given_acl : Option (List Acl) → List Acl
given_acl None = open_acl
given_acl (Some acl) = acl

abbrev pub operation_cmd : Operation → Cmd
operation_cmd (op.Create path flags bytes acl) = cmd.Create path bytes (given_acl acl) flags false
operation_cmd (op.Delete path version) = cmd.Delete path version
operation_cmd (op.Set path bytes version) = cmd.SetData path bytes version
operation_cmd (op.Check path version) = cmd.Check path version

-- the same of an operation of a multi
abbrev pub nested_op : Operation → Op
nested_op (op.Create path flags bytes acl) = nested.Create path bytes (given_acl acl) flags false
nested_op (op.Delete path version) = nested.Delete path version
nested_op (op.Set path bytes version) = nested.SetData path bytes version
nested_op (op.Check path version) = nested.Check path version

unfoldable pub cmd_of : Command → Cmd
cmd_of (command.Operation o) = operation_cmd o
cmd_of (command.SetAcl path version acl) = cmd.SetAcl path acl version
cmd_of (command.Auth scheme auth) = cmd.Auth scheme auth
cmd_of (command.Multi operations) = cmd.Multi (map nested_op operations)
cmd_of (command.Sync path) = cmd.Sync path
cmd_of command.Close = cmd.CloseSession
