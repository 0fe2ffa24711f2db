use Rattle.std.proofs.Common.{ap, ◌∙◌, Some}
use Rattle.kp_cells.specs.Overlays.{taken_in, all_begun, with_session}
use Rattle.kp_cells.proofs.Poured.{session_poured, session_settled, if_poured, stays_settled}
use Rattle.kp_cells.proofs.pour.CellsFill.session.Goals as goal

pub returns-clause-set : goal.returns-clause-set
returns-clause-set c = if_poured c.put_session.result
    (λ e. session_poured c.args.self.now c.requires.may _ c.args.id c.args.session.now (e ∙ ap (λ x. taken_in (with_session (all_begun c.args.self.now) c.args.id (Some x))) c.in_ok-copy.ensures))
    c.put_session.ensures.ok

pub returns-clause-may : goal.returns-clause-may
returns-clause-may c = stays_settled c.put_session.result c.args.self.now _
    (λ e. session_settled c.args.self.now c.requires.may _ c.args.id c.args.session.now (e ∙ ap (λ x. taken_in (with_session (all_begun c.args.self.now) c.args.id (Some x))) c.in_ok-copy.ensures))
    c.requires.may c.put_session.ensures.ok c.put_session.ensures.err
