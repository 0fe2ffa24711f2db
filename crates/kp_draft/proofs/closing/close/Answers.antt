use Rattle.std.proofs.Common.{sym, subst, ◌∙◌}
use Rattle.kp_model.specs.State.{State}
use Rattle.kp_draft.specs.Closing.{AreLeaves}
use Rattle.kp_draft.proofs.Closed.{closing_does}
use Rattle.kp_draft.proofs.Leaves.{owned_leaves, live_number}
use Rattle.kp_draft.proofs.closing.close.Goals as goal

pub close_of-requires : goal.close_of-requires
close_of-requires g c =
    let s : State = g.V.View.state c.args.view.now in
    subst (AreLeaves s.nodes c.args.id) (sym (c.as_slice.ensures ∙ c.in-Ok.ensures)) (owned_leaves s c.requires.good c.args.id (live_number s c.requires.good c.args.id c.requires.live))

pub returns-in-Ok : goal.returns-in-Ok
returns-in-Ok g c =
    let s : State = g.V.View.state c.args.view.now in
    λ applied sessions same. closing_does s c.args.index c.args.id applied sessions c.as_slice.result.now c.close_of.result same (c.as_slice.ensures ∙ c.in-Ok.ensures) (owned_leaves s c.requires.good c.args.id (live_number s c.requires.good c.args.id c.requires.live)) c.close_of.ensures
