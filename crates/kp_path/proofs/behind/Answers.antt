use Rattle.std.proofs.Common.{subst, arith}
use Rattle.std.specs.Prelude.{IfSome}
use Rattle.std.proofs.lemmas.Str.{IsCharBoundary-after_ascii}
use Rattle.kp_path.specs.Slash.{IsSlashAt}
use Rattle.kp_path.proofs.behind.Goals as goal

pub range_from-requires : goal.range_from-requires
range_from-requires c =
    let there : IsSlashAt c.args.path.now c.in-Some.end = subst (λ o. IfSome o (IsSlashAt c.args.path.now)) c.in-Some.is c.requires in
    λ _. IsCharBoundary-after_ascii c.args.path.now c.in-Some.end c.utf8.path there.0 (omega (arith, there.1))
