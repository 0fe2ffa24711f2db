use Rattle.std.proofs.Common.{sym, ◌∙◌}
use Rattle.kp_node.proofs.Committed.{idle_given, commit_given}
use Rattle.kp_node.proofs.node.Node.commit_one.Goals as goal

pub returns-then-not-has_upcoming-clause-ok : goal.returns-then-not-has_upcoming-clause-ok
returns-then-not-has_upcoming-clause-ok c = idle_given _ _ c.self.view_is c.self.invariant c.args.now (sym c.has_upcoming.ensures ∙ c.if-not-has_upcoming.true) _ c.quiet.ensures

pub returns-clause-ok : goal.returns-clause-ok
returns-clause-ok c = commit_given _ _ c.self.view_is c.self.invariant c.args.now _ c.commit-commit.ensures.index c.commit-commit.ensures.to (sym c.has_upcoming.ensures ∙ c.if-not-has_upcoming.false) _ _ c.in_ok-applied.ensures.ok _ c.give_applied.ensures
