use Rattle.kp_draft.proofs.Drafted.{draft_blank}
use Rattle.kp_draft.proofs.draft.blank.Goals as goal

pub returns-clause-draft : goal.returns-clause-draft
returns-clause-draft c = λ nodes. draft_blank nodes c.new.result c.new-2.result.entries c.new.ensures c.new-2.ensures.empty
