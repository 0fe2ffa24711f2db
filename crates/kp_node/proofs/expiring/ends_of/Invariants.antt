use Rattle.std.proofs.Common.{◌≡◌, map, take}
use Rattle.kp_model.specs.declared.entry.Body.TheVariants as body
use Rattle.kp_node.proofs.expiring.ends_of.Given as goal

abbrev pub invariant-loop-session : goal.invariant-loop-session
invariant-loop-session l = l.ends.items ≡ map (λ id. body.Expire id) (take l.session-index l.session-items)
