use Rattle.std.proofs.Common.{ap, sym, ◌∙◌, ◌≡◌, ◌-◌, ◌<◌, ◌≤◌, ℕ, true, false, get_or, arith}
use Rattle.std.proofs.lemmas.Bool.Decides.{nat_tests}
use Rattle.std.specs.Prelude.{Bool, nat_eq}
use Rattle.kp_entry.specs.Log.{last_index, term_of}
use Rattle.kp_raft.specs.Rules.{may_commit}
use Rattle.kp_raft.specs.Numbers.{greatest}
use Rattle.kp_raft.proofs.HeldUp.{greatest_below, may_not}
use Rattle.kp_raft.proofs.Greatest.{greatest_is, greatest_on, greatest_ends}
use Rattle.kp_raft.proofs.rules.commit_of.Goals as goal

pub returns-then-may_commit-clause-index : goal.returns-then-may_commit-clause-index
returns-then-may_commit-clause-index c =
    let f : ℕ → Bool = may_commit c.args.members c.args.me c.args.term c.args.log.now (λ k. get_or c.args.matches.now k 0) in
    let lt : c.loop-passed.passed < c.held_up_to-held.result - c.args.old = omega (arith, c.loop-passed-test.true, c.saturating_sub-passed-end.ensures) in
    let test : f (c.held_up_to-held.result - c.loop-passed.passed) ≡ true = sym c.may_commit.ensures ∙ c.if-may_commit.true in
    greatest_is _ c.held_up_to-held.result c.loop-passed.passed f c.args.old lt c.loop-passed.invariant test

pub loop-passed-init : goal.loop-passed-init
loop-passed-init c =
    let f : ℕ → Bool = may_commit c.args.members c.args.me c.args.term c.args.log.now (λ k. get_or c.args.matches.now k 0) in
    let end : c.last.result ≡ last_index c.args.log.now = c.last.ensures.index in
    let less : c.held_up_to-held.result - 0 ≡ c.held_up_to-held.result = omega arith in
    greatest_below (last_index c.args.log.now) c.held_up_to-held.result f c.args.old (omega (arith, end, c.held_up_to-held.ensures.within)) (λ (i : ℕ) (low : c.held_up_to-held.result < i) (high : i ≤ last_index c.args.log.now). may_not (nat_eq (term_of c.args.log.now i) c.args.term) _ (c.held_up_to-held.ensures.none i low (omega (arith, end, high)))) ∙ ap (λ (n : ℕ). greatest n f c.args.old) (sym less)

pub loop-passed-preserved : goal.loop-passed-preserved
loop-passed-preserved c =
    let f : ℕ → Bool = may_commit c.args.members c.args.me c.args.term c.args.log.now (λ k. get_or c.args.matches.now k 0) in
    let lt : c.loop-passed.passed < c.held_up_to-held.result - c.args.old = omega (arith, c.loop-passed-test.true, c.saturating_sub-passed-end.ensures) in
    let test : f (c.held_up_to-held.result - c.loop-passed.passed) ≡ false = sym c.may_commit.ensures ∙ c.if-may_commit.false in
    greatest_on _ c.held_up_to-held.result c.loop-passed.passed f c.args.old lt c.loop-passed.invariant test

pub returns-clause-index : goal.returns-clause-index
returns-clause-index c =
    let f : ℕ → Bool = may_commit c.args.members c.args.me c.args.term c.args.log.now (λ k. get_or c.args.matches.now k 0) in
    let le : c.held_up_to-held.result - c.args.old ≤ c.loop-passed.passed = omega (arith, c.loop-passed-test.false, c.saturating_sub-passed-end.ensures) in
    greatest_ends _ c.held_up_to-held.result c.loop-passed.passed f c.args.old le c.loop-passed.invariant
