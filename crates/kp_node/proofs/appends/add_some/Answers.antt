use Rattle.std.proofs.Common.{◌∙◌}
use Rattle.kp_node.proofs.Appended.{one_added, so_added}
use Rattle.kp_node.proofs.appends.add_some.Goals as goal

pub returns-in-Err-clause-store : goal.returns-in-Err-clause-store
returns-in-Err-clause-store c = so_added _ _ _ _ _ c.loop-place.auto.place (c.in-Err.ensures.err ∙ c.loop-place.invariant)

pub loop-place-preserved : goal.loop-place-preserved
loop-place-preserved c = one_added _ _ _ _ _ _ c.loop-place.auto.place c.loop-place.invariant c.in-Ok.ensures.ok
