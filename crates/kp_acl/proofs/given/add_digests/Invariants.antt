use Rattle.std.proofs.Common.{◌≡◌, ◌++◌, map, drop}
use Rattle.kp_model.specs.Fixed.{digest_line}
use Rattle.kp_acl.proofs.given.add_digests.Given as goal

-- what is there and what is still to come make the whole
abbrev pub invariant-loop-id : goal.invariant-loop-id
invariant-loop-id l = l.kept ++ map (digest_line l.perms) (drop l.id-index l.ids) ≡ l.fn.kept ++ map (digest_line l.perms) l.ids
