use Rattle.std.proofs.Common.{arith, ap, ◌≡◌, ◌+◌, ◌-◌, ◌≤◌, ◌∙◌, ℕ, drop, length}
use Rattle.std.specs.Prelude.{min}
use Rattle.kp_entry.specs.Log.{last_index, behind}
use Rattle.kp_raft.specs.Appends.{agreeing}
use Rattle.kp_raft.proofs.StepFacts.{matched_reach}
use Rattle.kp_raft.proofs.weigh.matched_of.Goals as goal

pub returns-clause-reach : goal.returns-clause-reach
returns-clause-reach c = λ le.
    let base : c.base-base.result.0 ≡ c.args.log.now.base = ap (λ (p : ℕ × ℕ). p.0) c.base-base.ensures.base in
    let below : c.min-below.result ≡ min (length c.args.entries.now) (c.args.log.now.base - c.args.prev) = omega (arith, base, c.min-below.ensures, c.saturating_sub.ensures, c.len.ensures.len) in
    let reach : c.args.prev + (c.min-below.result + agreeing (behind c.args.log.now (c.args.prev + c.min-below.result)) (drop c.min-below.result c.args.entries.now)) ≤ last_index c.args.log.now = matched_reach c.args.log.now c.args.prev c.min-below.result c.args.entries.now below le in
    omega (arith, reach, c.agreeing.ensures.count)
