use Rattle.std.proofs.Common.{ap, ◌∙◌}
use Rattle.std.specs.FinMap as map
use Rattle.kp_model.specs.Store.{Store, after}
use Rattle.kp_cells.specs.Parts.{Parts}
use Rattle.kp_storage.proofs.Keeping.{latest_parts_are}
use Rattle.kp_cells.proofs.Whole.{get-sessions}
use Rattle.kp_storage.proofs.storage.Storage.latest_session.Goals as goal

pub returns : goal.returns
returns c =
    c.latest_session.ensures
    ∙ ap (λ (p : Parts). map.get p.sessions c.args.id) (latest_parts_are c.self.inside.cells c.self.inside.entries.items c.self.inside.answers.items c.self.invariant)
    ∙ get-sessions _ c.args.id
    ∙ ap (λ (x : Store). map.get (after x.state x.unapplied).sessions c.args.id) c.self.view_is
