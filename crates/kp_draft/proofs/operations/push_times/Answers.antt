use Rattle.std.proofs.Common.{◌++◌, replicate, ap, ◌∙◌, arith, w32}
use Rattle.std.proofs.lemmas.Int.{to_z-of_z}
use Rattle.kp_draft.proofs.operations.push_times.Goals as goal

pub returns : goal.returns
returns c = c.loop-done.invariant ∙ ap (λ z. c.args.codes.now ++ replicate c.loop-done.done z) (to_z-of_z w32 c.args.code c.ranges.code) ∙ ap (λ n. c.args.codes.now ++ replicate n c.args.code) (omega (arith, c.loop-done-test.false, c.loop-done.auto.done-end))
