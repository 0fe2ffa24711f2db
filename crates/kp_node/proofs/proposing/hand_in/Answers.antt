use Rattle.std.proofs.Common.{◌∙◌, sym}
use Rattle.kp_node.proofs.Handed.{left_out, all_join}
use Rattle.kp_node.proofs.proposing.hand_in.Goals as goal

pub returns-then-not-is_wanted-clause-ok : goal.returns-then-not-is_wanted-clause-ok
returns-then-not-is_wanted-clause-ok c = λ first d h. left_out first _ _ _ _ d _ h (sym c.is_wanted.ensures.wanted ∙ c.if-not-is_wanted.true)

pub returns-clause-ok : goal.returns-clause-ok
returns-clause-ok c = all_join c.add.result _ _ _ _ _ _ _ (sym c.is_wanted.ensures.wanted ∙ c.if-not-is_wanted.false) (c.is_wanted.ensures.room c.if-not-is_wanted.false) c.add.ensures.ok
