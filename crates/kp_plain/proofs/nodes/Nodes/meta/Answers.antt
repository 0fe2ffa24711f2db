use Rattle.std.proofs.Common.{ap, ◌∙◌}
use Rattle.kp_model.specs.State.{path_cmp, meta_at}
use Rattle.std.specs.FinMap.{find}
use Rattle.kp_plain.proofs.Shows.{meta_shown}
use Rattle.kp_plain.proofs.nodes.Nodes.meta.Goals as goal

pub returns : goal.returns
returns c = c.find_path.ensures ∙ ap (find path_cmp c.args.path.now) c.as_slice.ensures.value ∙ meta_shown c.self.inside.items.items c.self.inside.metas.items c.args.path.now c.self.invariant ∙ ap (λ m. meta_at m c.args.path.now) c.self.view_is
