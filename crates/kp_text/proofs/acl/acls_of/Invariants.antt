use Rattle.std.proofs.Common.{◌≡◌, ◌++◌, drop, map}
use Rattle.std.specs.Option.{option_map}
use Rattle.kp_text.specs.AclWords.{acls_of}
use Rattle.kp_text.proofs.acl.acls_of.Given as goal

abbrev pub invariant-loop-word : goal.invariant-loop-word
invariant-loop-word l = option_map (λ more. l.acls ++ more) (acls_of (map (λ x. x.now) (drop l.word-index l.words))) ≡ acls_of (map (λ x. x.now) l.words)
