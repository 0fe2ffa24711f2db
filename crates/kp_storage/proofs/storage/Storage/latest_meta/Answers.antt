use Rattle.std.proofs.Common.{ap, ◌∙◌}
use Rattle.std.specs.FinMap as map
use Rattle.kp_model.specs.State.{meta_at}
use Rattle.kp_model.specs.Store.{Store, after}
use Rattle.kp_cells.specs.Parts.{Parts}
use Rattle.kp_storage.proofs.Keeping.{latest_parts_are}
use Rattle.kp_cells.proofs.Whole.{get-metas}
use Rattle.kp_storage.proofs.storage.Storage.latest_meta.Goals as goal

pub returns : goal.returns
returns c =
    c.latest_meta.ensures
    ∙ ap (λ (p : Parts). map.get p.metas c.args.path.now) (latest_parts_are c.self.inside.cells c.self.inside.entries.items c.self.inside.answers.items c.self.invariant)
    ∙ get-metas _ c.args.path.now
    ∙ ap (λ (x : Store). meta_at (after x.state x.unapplied).nodes c.args.path.now) c.self.view_is
