use Rattle.std.proofs.Common.{sym, ◌∙◌}
use Rattle.kp_node.proofs.Replaced.{whole_given, part_given}
use Rattle.kp_node.proofs.node.Node.install.Goals as goal

pub returns-then-not-is_whole-clause-ok : goal.returns-then-not-is_whole-clause-ok
returns-then-not-is_whole-clause-ok c = part_given c.args.now c.args.sending _ _ _ _ _ c.self.view_is c.self.invariant (sym c.is_whole.ensures ∙ c.if-not-is_whole.true) (c.pass_over-moved.ensures c.args.now) c.give_moved.ensures

pub returns-clause-ok : goal.returns-clause-ok
returns-clause-ok c = whole_given c.args.now c.args.sending _ _ _ _ _ c.self.view_is c.self.invariant (sym c.is_whole.ensures ∙ c.if-not-is_whole.false) c.in_ok-moved.ensures.ok c.give_moved-2.ensures
