use Rattle.std.proofs.Common.{length}
use Rattle.kp_facts.proofs.Grouped.{LeadsOn}
use Rattle.kp_facts.proofs.groups.listed.Given as goal

abbrev pub invariant-drain : goal.invariant-drain
invariant-drain g l = LeadsOn g.K.Ord.cmp g.V.Ord.cmp (λ w. w.items) l.initial.groups.entries l.list.items l.groups.entries

abbrev pub decreases-drain : goal.decreases-drain
decreases-drain g l = length l.groups.entries
