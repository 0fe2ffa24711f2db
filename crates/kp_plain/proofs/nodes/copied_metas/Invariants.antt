use Rattle.std.proofs.Common.{◌≡◌, take}
use Rattle.kp_plain.proofs.nodes.copied_metas.Given as goal

abbrev pub invariant-loop-path : goal.invariant-loop-path
invariant-loop-path l = l.items.items ≡ take l.path-index l.from
