use Rattle.std.proofs.Common.{◌≡◌, map, take}
use Rattle.std.specs.List.{filter}
use Rattle.kp_facts.specs.Tree.{owner_facts, is_owner}
use Rattle.kp_facts.proofs.tree.owners.Given as goal

abbrev pub invariant-loop-session : goal.invariant-loop-session
invariant-loop-session g l = l.owners.items ≡ map (owner_facts (g.V.View.state l.view)) (filter (is_owner (g.V.View.state l.view)) (take l.session-index l.session-items))
