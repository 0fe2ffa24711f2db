use Rattle.std.proofs.Common.{◌≡◌, ℕ, ◌-◌, ◌+◌, List, None, take, sym, ap, ◌∙◌, arith}
use Rattle.kp_model.specs.Path.{last_slash}
use Rattle.kp_path.proofs.Slashes.{at_slash, past_other}
use Rattle.kp_path.proofs.last_slash.Goals as goal

nothing : (xs : List ℕ) (n : ℕ) → n ≡ 0 → None ≡ last_slash (take n xs)
unfolding last_slash
nothing xs n e = sym (ap (λ m. last_slash (take m xs)) e)

pub returns-then-bytes-end-eq47-clause-place : goal.returns-then-bytes-end-eq47-clause-place
returns-then-bytes-end-eq47-clause-place c =
    let more : (c.loop-end.end - 1) + 1 ≡ c.loop-end.end = omega arith in
    sym (c.loop-end.invariant.rest ∙ sym (ap (λ n. last_slash (take n c.args.bytes.now)) more) ∙ at_slash c.args.bytes.now (c.loop-end.end - 1) (omega arith) c.if-bytes-end-eq47.true)

pub loop-end-preserved : goal.loop-end-preserved
loop-end-preserved c =
    let more : (c.loop-end.end - 1) + 1 ≡ c.loop-end.end = omega arith in
    record {
      within = omega arith;
      rest = c.loop-end.invariant.rest ∙ sym (ap (λ n. last_slash (take n c.args.bytes.now)) more) ∙ past_other c.args.bytes.now (c.loop-end.end - 1) (omega arith) c.if-bytes-end-eq47.false;
    }

pub returns-clause-place : goal.returns-clause-place
returns-clause-place c = nothing c.args.bytes.now c.loop-end.end (omega arith) ∙ sym c.loop-end.invariant.rest
