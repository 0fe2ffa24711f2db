use Rattle.kp_draft.proofs.draft.look_under.Goals as goal

pub returns-in-Some : goal.returns-in-Some
returns-in-Some g c = c.look_at.ensures

pub returns-in-None : goal.returns-in-None
returns-in-None g c = c.list.ensures
