-- How an answer is sent: that of an entry to the request that made it, and that of a question.
use Rattle.std.specs.Prelude.{ℕ, ℤ, List, [], ◌∷◌}
use Rattle.kp_model.specs.declared.node.Meta.{Meta}
use Rattle.kp_model.specs.declared.read.ReadReply.{ReadReply}
use Rattle.kp_model.specs.declared.read.ReadReply.TheVariants as told
use Rattle.kp_model.specs.declared.reply.Reply.{Reply}
use Rattle.kp_model.specs.declared.reply.Reply.TheVariants as reply
use Rattle.kp_model.specs.declared.reply.OpReply.{OpReply}
use Rattle.kp_model.specs.declared.reply.OpReply.TheVariants as done
use Rattle.kp_wire.specs.declared.request.WireAsk.{WireAsk}
use Rattle.kp_wire.specs.declared.request.WireAsk.TheVariants as ask
use Rattle.kp_wire.specs.declared.request.WireOp.{WireOp}
use Rattle.kp_wire.specs.declared.reply.WireReply.{WireReply}
use Rattle.kp_wire.specs.declared.reply.WireReply.TheVariants as sent
use Rattle.kp_wire.specs.declared.result.OpResult.{OpResult}
use Rattle.kp_wire.specs.declared.result.OpResult.TheVariants as result
use Rattle.kp_wire.specs.OpKinds.{op_number}
use Rattle.kp_wire.specs.Request.{op_kind}
use Rattle.kp_wire.specs.Stats.{stat_of}

-- ---- entries

-- what an operation is answered
abbrev pub result_of : OpReply → OpResult
result_of done.Done = result.Empty
result_of (done.Path path) = result.Path path
result_of (done.PathStat path m) = result.PathStat path (stat_of m)
result_of (done.Stat m) = result.Stat (stat_of m)

-- what each operation of a multi is answered, behind the number of its type
unfoldable pub results_of : List WireOp → List OpReply → List (ℤ × OpResult)
results_of [] replies = []
results_of (o ∷ ops) [] = []
results_of (o ∷ ops) (r ∷ replies) = (op_number (op_kind o), result_of r) ∷ results_of ops replies

-- the operations of a multi; another request has none
abbrev pub ops_in : WireAsk → List WireOp
ops_in (ask.Multi ops) = ops
ops_in _ = []

-- what the request that made an entry is answered; an opening, an attach and an entry that came too late have nothing to tell it
unfoldable pub answer_to : WireAsk → Reply → WireReply
answer_to a (reply.Err code) = sent.Err code
answer_to a (reply.Path path) = sent.Path path
answer_to a (reply.PathStat path m) = sent.PathStat path (stat_of m)
answer_to a (reply.Stat m) = sent.Stat (stat_of m)
answer_to a (reply.Multi replies) = sent.Multi (results_of (ops_in a) replies)
answer_to a (reply.Failed codes) = sent.Failed codes
answer_to a reply.Done = sent.Empty
answer_to a reply.Stale = sent.Empty
answer_to a (reply.Session id) = sent.Empty
answer_to a (reply.Epoch epoch) = sent.Empty

-- ---- questions

-- names of children: getChildren2 wants the node's numbers with them, getChildren doesn't
abbrev pub names_to : WireAsk → List (List ℕ) → Meta → WireReply
names_to (ask.GetChildren2 path watch) names m = sent.NamesStat names (stat_of m)
names_to _ names m = sent.Names names

-- what a request that asked a question is answered
unfoldable pub told_to : WireAsk → ReadReply → WireReply
told_to a (told.Err code) = sent.Err code
told_to a (told.Stat m) = sent.Stat (stat_of m)
told_to a (told.Data bytes m) = sent.Data bytes (stat_of m)
told_to a (told.Acl acl m) = sent.Acl acl (stat_of m)
told_to a (told.Names names m) = names_to a names m
