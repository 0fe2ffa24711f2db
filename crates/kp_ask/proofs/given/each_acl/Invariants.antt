use Rattle.std.proofs.Common.{◌≡◌, take, map}
use Rattle.kp_ask.specs.Given.{given_acl}
use Rattle.kp_ask.proofs.given.each_acl.Given as goal

abbrev pub invariant-loop-line : goal.invariant-loop-line
invariant-loop-line l = l.acl ≡ map given_acl (take l.line-index l.lines)
