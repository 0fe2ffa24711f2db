use Rattle.std.proofs.Common.{length, map}
use Rattle.std.specs.Ordering.{nat_cmp}
use Rattle.kp_model.specs.State.{path_cmp}
use Rattle.kp_facts.specs.Groups.{GathersWith}
use Rattle.kp_facts.specs.Watched.{conn_of, path_of}
use Rattle.kp_facts.proofs.watching.conns_by_path.Given as goal

abbrev pub invariant-walk : goal.invariant-walk
invariant-walk l = GathersWith path_cmp nat_cmp path_of conn_of l.watches (map (λ w. w.now) l.list.items) l.groups.entries

abbrev pub decreases-walk : goal.decreases-walk
decreases-walk l = length l.list.items
