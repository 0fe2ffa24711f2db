use Rattle.std.proofs.Common.{◌≡◌, ◌++◌, drop}
use Rattle.kp_text.specs.Texts.{acls_text}
use Rattle.kp_text.proofs.print.write_acls.Given as goal

abbrev pub invariant-loop-acl : goal.invariant-loop-acl
invariant-loop-acl l = l.out.items ++ acls_text (drop l.acl-index l.acls) ≡ l.fn.out.items ++ acls_text l.acls
