use Rattle.std.proofs.Common.{ap, arith, ◌≡◌}
use Rattle.kp_raft.specs.declared.append.Weighed.{Weighed}
use Rattle.kp_log_tests.proofs.raft.take.Goals as goal

pub take_append-requires-clause-matched : goal.take_append-requires-clause-matched
take_append-requires-clause-matched c =
    let same = ap (λ (w : Weighed). w.matched) c.weigh-weighed.ensures in
    omega (arith, same, c.if-weighed-count.false)
