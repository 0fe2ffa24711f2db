-- What a request asks: a command that goes through the log, a question about the committed state, or neither.
use Rattle.std.specs.Prelude.{Bool, true, false, map, Option, Some, None}
use Rattle.kp_model.specs.declared.command.Op.{Op}
use Rattle.kp_model.specs.declared.command.Op.TheVariants as op
use Rattle.kp_model.specs.declared.command.Cmd.{Cmd}
use Rattle.kp_model.specs.declared.command.Cmd.TheVariants as cmd
use Rattle.kp_model.specs.declared.read.ReadCmd.{ReadCmd}
use Rattle.kp_model.specs.declared.read.ReadCmd.TheVariants as look
use Rattle.kp_wire.specs.declared.request.WireAsk.{WireAsk}
use Rattle.kp_wire.specs.declared.request.WireAsk.TheVariants as ask
use Rattle.kp_wire.specs.declared.request.WireOp.{WireOp}
use Rattle.kp_wire.specs.declared.request.WireOp.TheVariants as wire
use Rattle.kp_ask.specs.Given.{given, given_acls}

-- the operation that a part of a multi asks for; create2 wants the numbers of the new node, create doesn't
abbrev pub op_of : WireOp → Op
op_of (wire.Create path bytes acl flags) = op.Create (given path) (given bytes) (given_acls acl) flags false
op_of (wire.Create2 path bytes acl flags) = op.Create (given path) (given bytes) (given_acls acl) flags true
op_of (wire.Delete path version) = op.Delete (given path) version
op_of (wire.SetData path bytes version) = op.SetData (given path) (given bytes) version
op_of (wire.Check path version) = op.Check (given path) version

-- the command that a request asks for: the writes, and the three that go through the log as they do
unfoldable pub command : WireAsk → Option Cmd
command (ask.Create path bytes acl flags) = Some (cmd.Create (given path) (given bytes) (given_acls acl) flags false)
command (ask.Create2 path bytes acl flags) = Some (cmd.Create (given path) (given bytes) (given_acls acl) flags true)
command (ask.Delete path version) = Some (cmd.Delete (given path) version)
command (ask.SetData path bytes version) = Some (cmd.SetData (given path) (given bytes) version)
command (ask.SetAcl path acl version) = Some (cmd.SetAcl (given path) (given_acls acl) version)
command (ask.Sync path) = Some (cmd.Sync (given path))
command (ask.Check path version) = Some (cmd.Check (given path) version)
command (ask.Multi ops) = Some (cmd.Multi (map op_of ops))
command (ask.Auth kind scheme auth) = Some (cmd.Auth (given scheme) (given auth))
command ask.CloseSession = Some cmd.CloseSession
command _ = None

-- the question that a request asks
unfoldable pub question : WireAsk → Option ReadCmd
question (ask.Exists path watch) = Some (look.Exists (given path))
question (ask.GetData path watch) = Some (look.GetData (given path))
question (ask.GetAcl path) = Some (look.GetAcl (given path))
question (ask.GetChildren path watch) = Some (look.GetChildren (given path))
question (ask.GetChildren2 path watch) = Some (look.GetChildren (given path))
question _ = None

-- whether a request asks for a watch
unfoldable pub wants_watch : WireAsk → Bool
wants_watch (ask.Exists path watch) = watch
wants_watch (ask.GetData path watch) = watch
wants_watch (ask.GetChildren path watch) = watch
wants_watch (ask.GetChildren2 path watch) = watch
wants_watch _ = false
