use Rattle.std.proofs.Common.{subst, sym, ap, ◌∙◌}
use Rattle.kp_node.proofs.Appended.{never, so_taken, fewer_taken, end_of}
use Rattle.kp_node.proofs.appends.take_added.Goals as goal

pub returns-in_err-out-in-Err-clause-sure : goal.returns-in_err-out-in-Err-clause-sure
returns-in_err-out-in-Err-clause-sure c = never c.args.raft.now c.take_append.new.self c.args.mail.now c.args.matched c.in-Err.ensures.err c.requires.ready c.requires.kind c.requires.matched c.in_err-out-in-Err.ensures.free

pub returns-in-Ok-clause-ok : goal.returns-in-Ok-clause-ok
returns-in-Ok-clause-ok c = λ s agrees given. so_taken c.args.raft.now c.args.mail.now s agrees c.requires.kind (end_of c.args.raft.now _ c.commit-commit.ensures.index c.commit-commit.ensures.to) _ c.requires.matched _ c.requires.some c.requires.within _ given _ _ c.in-Ok.ensures.ok c.in-Ok.ensures.image

pub returns-in_ok-out-in-Err-clause-ok : goal.returns-in_ok-out-in-Err-clause-ok
returns-in_ok-out-in-Err-clause-ok c = λ s agrees given. fewer_taken c.args.raft.now c.take_append.new.self c.args.mail.now s agrees c.requires.kind (end_of c.args.raft.now _ c.commit-commit.ensures.index c.commit-commit.ensures.to) _ c.requires.matched _ _ _ _ c.requires.some c.requires.within given c.last.ensures.index c.in-Err.ensures.err _ _ c.in_ok-out-in-Err.ensures.image c.truncate.ensures c.in_ok-out-in-Err.ensures.ok
