use Rattle.std.specs.Cmp.{nat_cmp_total}
use Rattle.std.specs.FinMap.{nat_cmp-IsAntisymmetric}
use Rattle.kp_plain.proofs.SortedMap.{stays_sorted_without, remove_sorted}
use Rattle.kp_plain.proofs.sessions.Sessions.remove.Goals as goal

pub invariant_of-self : goal.invariant_of-self
invariant_of-self c = rw c.remove_from.ensures (stays_sorted_without nat_cmp_total c.args.number c.self.inside.items.items c.self.invariant)

pub returns : goal.returns
returns c = rw (c.remove_from.ensures, ← c.self.view_is) (remove_sorted nat_cmp_total nat_cmp-IsAntisymmetric c.args.number c.self.inside.items.items c.self.invariant)
