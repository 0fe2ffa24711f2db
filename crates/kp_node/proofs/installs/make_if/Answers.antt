use Rattle.std.proofs.Common.{sym, ◌∙◌}
use Rattle.kp_node.proofs.installs.make_if.Goals as goal

pub returns-then-not-is_taken : goal.returns-then-not-is_taken
returns-then-not-is_taken c = sym (c.is_taken.ensures c.args.sending.now.image) ∙ c.if-not-is_taken.true

pub returns : goal.returns
returns c = (sym (c.is_taken.ensures c.args.sending.now.image) ∙ c.if-not-is_taken.false, c.in_ok-make.ensures)
