use Rattle.std.proofs.Common.{◌∙◌, sym}
use Rattle.kp_node.proofs.Appended.{few_by, add_by}
use Rattle.kp_node.proofs.appends.append.Goals as goal

pub add_some-taken-requires-clause-from : goal.add_some-taken-requires-clause-from
add_some-taken-requires-clause-from c = few_by c.args.raft.now c.ready.new.self c.args.mail.now _ c.weigh-weighed.ensures (sym c.is_taken.ensures ∙ c.if-not-is_taken.false)

pub add_some-taken-requires-clause-room : goal.add_some-taken-requires-clause-room
add_some-taken-requires-clause-room c = add_by c.args.raft.now c.ready.new.self c.args.mail.now c.weigh-weighed.result c.args.storage.now _ _ _ c.in_ok-ready.ensures.ok c.requires c.weigh-weighed.ensures (sym c.is_taken.ensures ∙ c.if-not-is_taken.false) c.commit-commit.ensures.index c.commit-commit.ensures.to c.last-last.ensures.index c.last-last.ensures.range c.take_back.ensures
