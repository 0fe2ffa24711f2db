use Rattle.std.proofs.Common.{◌≡◌, ◌++◌, drop}
use Rattle.std.specs.List.{flat_map}
use Rattle.kp_model.specs.Fixed.{meant_by}
use Rattle.kp_acl.proofs.given.all_meant.Given as goal

-- what is there and what is still to come make the whole
abbrev pub invariant-loop-line : goal.invariant-loop-line
invariant-loop-line l = l.kept ++ flat_map (meant_by l.ids) (drop l.line-index l.acl) ≡ flat_map (meant_by l.ids) l.acl
