use Rattle.std.proofs.Common.{sym, ap, ◌∙◌, ◌≡◌, ◌+◌, ◌-◌, ◌≤◌, ℕ, true, false, length, get_or, arith}
use Rattle.std.proofs.lemmas.Bool.Decides.{nat_tests}
use Rattle.kp_raft.specs.Appends.{has_term}
use Rattle.kp_raft.specs.Rules.{noop}
use Rattle.kp_raft.proofs.Agreeing.{agree_on, agree_stops, agree_ends}
use Rattle.kp_raft.proofs.weigh.agreeing.Goals as goal

pub returns-then-not-agrees-clause-count : goal.returns-then-not-agrees-clause-count
returns-then-not-agrees-clause-count c =
    let r : c.agrees.result ≡ false = grind (arith, nat_tests, c.if-not-agrees.true) in
    agree_stops c.args.log.now c.args.at c.args.first c.loop-k.k _ c.args.entries.now (noop 0) c.requires.from (omega arith) c.loop-k.invariant (sym (c.agrees.ensures (noop 0)) ∙ r)

pub loop-k-preserved : goal.loop-k-preserved
loop-k-preserved c =
    let r : c.agrees.result ≡ true = grind (arith, nat_tests, c.if-not-agrees.false) in
    agree_on c.args.log.now c.args.at c.args.first c.loop-k.k _ c.args.entries.now (noop 0) c.requires.from (omega arith) c.loop-k.invariant (sym (c.agrees.ensures (noop 0)) ∙ r)

pub returns-clause-count : goal.returns-clause-count
returns-clause-count c =
    let len : c.len.result ≡ length c.args.entries.now = c.len.ensures.len in
    let whole = agree_ends c.args.log.now c.args.at c.args.first c.loop-k.k _ c.args.entries.now (omega (arith, len, c.loop-k-test.false)) (omega (arith, len, c.loop-k.auto.k-end)) c.loop-k.invariant in
    ap (λ (n : ℕ). n - c.args.first) c.len-2.ensures.len ∙ whole
