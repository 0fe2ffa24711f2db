use Rattle.std.proofs.Common.{length, ap, sym, ◌∙◌}
use Rattle.std.specs.Ordering.{nat_cmp}
use Rattle.std.specs.FinMap as map
use Rattle.kp_plain.proofs.SortedMap.{len_sorted}
use Rattle.kp_plain.proofs.sessions.Sessions.len.Goals as goal

pub returns : goal.returns
returns c = ap length c.as_slice.ensures.value ∙ sym (len_sorted nat_cmp c.self.inside.items.items c.self.invariant) ∙ ap map.len c.self.view_is
