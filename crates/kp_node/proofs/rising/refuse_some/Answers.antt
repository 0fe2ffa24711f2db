use Rattle.std.proofs.Common.{◌≡◌, true, nat_lt, length, refl, arith}
use Rattle.std.proofs.lemmas.Bool.Decides.{nat_tests}
use Rattle.kp_step.specs.Answers.{by_term}
use Rattle.kp_node.proofs.Risen.{refused_some}
use Rattle.kp_node.proofs.rising.refuse_some.Goals as goal

pub returns-then-waiting-gt0 : goal.returns-then-waiting-gt0
returns-then-waiting-gt0 c =
    let some : nat_lt 0 (length c.args.conn.now.queue) ≡ true = grind (arith, nat_tests, c.if-waiting-gt0.true, c.waiting.ensures) in
    refused_some c.args.zxid c.args.conn.now c.refuse.new.conn (nat_lt 0 (length c.args.conn.now.queue)) some (c.refuse.ensures by_term refl)
