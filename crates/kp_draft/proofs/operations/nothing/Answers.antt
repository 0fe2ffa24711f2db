use Rattle.kp_draft.proofs.Telling.{behind_blank}
use Rattle.kp_draft.proofs.operations.nothing.Goals as goal

pub returns-clause-behind : goal.returns-clause-behind
returns-clause-behind c = λ nodes. behind_blank nodes c.blank.result.effects c.blank.result.kept.entries c.new.result.entries c.blank.ensures.none (c.blank.ensures.draft nodes) c.new.ensures.empty
