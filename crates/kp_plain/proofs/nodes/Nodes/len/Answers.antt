use Rattle.std.proofs.Common.{length, ap, sym, ◌∙◌}
use Rattle.std.specs.FinMap as map
use Rattle.kp_model.specs.State.{path_cmp}
use Rattle.kp_plain.proofs.SortedMap.{len_sorted}
use Rattle.kp_plain.proofs.nodes.Nodes.len.Goals as goal

pub returns : goal.returns
returns c = ap length c.as_slice.ensures.value ∙ sym (len_sorted path_cmp c.self.inside.items.items c.self.invariant.ordered.sorted) ∙ ap map.len c.self.view_is
