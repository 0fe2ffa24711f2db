use Rattle.std.proofs.Common.{refl, inl}
use Rattle.kp_shared.specs.declared.plan.Step.TheVariants as step
use Rattle.kp_shared.specs.Plans.{Takes}
use Rattle.kp_shared.proofs.TurnCalls.{left_out, maybe_commits}
use Rattle.kp_shared.proofs.turns.maybe_commits.Goals as goal

pub returns-then-wants_commits-clause-tells : goal.returns-then-wants_commits-clause-tells
returns-then-wants_commits-clause-tells g c = maybe_commits (g.C.Clock.may c.args.clock.now) c.args.batch.now.items c.take_commits.new.batch.items c.args.seat.now c.take_commits.new.seat c.take_commits.result c.take_commits.ensures.tells

pub returns-clause-tells : goal.returns-clause-tells
returns-clause-tells g c = left_out (g.C.Clock.may c.args.clock.now) c.args.batch.now.items c.args.seat.now (λ ds. Takes step.MaybeCommits ds) (inl refl)
