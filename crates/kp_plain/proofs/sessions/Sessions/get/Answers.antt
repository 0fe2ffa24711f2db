use Rattle.kp_plain.proofs.SortedMap.{get_sorted}
use Rattle.std.proofs.Common.{sym, ap, ◌∙◌}
use Rattle.std.specs.Ordering.{nat_cmp}
use Rattle.std.specs.FinMap as map
use Rattle.std.specs.FinMap.{find}
use Rattle.kp_plain.proofs.sessions.Sessions.get.Goals as goal

pub returns : goal.returns
returns c = c.find_in.ensures ∙ ap (find nat_cmp c.args.number) c.as_slice.ensures.value ∙ sym (get_sorted nat_cmp c.self.inside.items.items c.args.number c.self.invariant) ∙ ap (λ m. map.get m c.args.number) c.self.view_is
