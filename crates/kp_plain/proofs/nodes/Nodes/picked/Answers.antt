use Rattle.std.proofs.Common.{sym, ap, ◌∙◌}
use Rattle.std.specs.FinMap as map
use Rattle.std.specs.List.{filter}
use Rattle.kp_model.specs.State.{path_cmp}
use Rattle.kp_act.proofs.Acts.{if_same}
use Rattle.kp_plain.specs.Picked.{picks}
use Rattle.kp_plain.proofs.Listing.{paths_in}
use Rattle.kp_plain.proofs.SortedMap.{keys_sorted}
use Rattle.kp_plain.proofs.nodes.Nodes.picked.Goals as goal

pub returns : goal.returns
returns c = if_same c.gathered.result _ _ (ap (filter (picks c.args.self.now c.args.pick.now)) (
    ap paths_in c.as_slice.ensures.value
    ∙ sym (keys_sorted path_cmp c.self.inside.items.items c.self.invariant.ordered.sorted)
    ∙ ap map.keys c.self.view_is)) c.gathered.ensures
