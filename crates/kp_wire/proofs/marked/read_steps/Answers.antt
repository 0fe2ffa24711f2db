use Rattle.std.proofs.Common.{◌≡◌, subst, Ok}
use Rattle.std.proofs.lemmas.Result.{err_from_is_err_and}
use Rattle.kp_jute.specs.Jute.{until_at}
use Rattle.kp_jute.proofs.Loops.{until_goes_on, until_stops, until_fails, until_runs_out}
use Rattle.kp_wire.specs.Common.{behind_all}
use Rattle.kp_wire.proofs.marked.read_steps.Goals as goal

pub returns-in_err-read_step : goal.returns-in_err-read_step
returns-in_err-read_step g c =
    let p = err_from_is_err_and c.from_residual.result c.from_residual.ensures.1 in
    rw (p.1, p.2) (until_fails g.T.Marked.form.read c.in_err-read_step.field-0.0 c.loop.items.items c.args.most c.loop.counter c.loop.reader (behind_all c.args.before.items (until_at g.T.Marked.form.read c.args.most c.args.reader.now)) c.loop-test.true c.in_err-read_step.ensures c.loop.invariant)

pub returns-in-None : goal.returns-in-None
returns-in-None g c = until_stops g.T.Marked.form.read c.loop.items.items c.args.most c.loop.counter c.loop.reader c.read_step.new.reader (behind_all c.args.before.items (until_at g.T.Marked.form.read c.args.most c.args.reader.now)) c.loop-test.true (subst (λ o. g.T.Marked.form.read c.loop.reader ≡ Ok (o, c.read_step.new.reader)) c.in-None.is c.in_ok-read_step.ensures) c.loop.invariant

pub loop-preserved : goal.loop-preserved
loop-preserved g c =
    rw c.in_ok-push-in-Some.ensures.items (until_goes_on g.T.Marked.form.read c.loop.items.items c.args.most c.loop.counter c.loop.reader c.in-Some.item c.read_step.new.reader (behind_all c.args.before.items (until_at g.T.Marked.form.read c.args.most c.args.reader.now)) c.loop-test.true (subst (λ o. g.T.Marked.form.read c.loop.reader ≡ Ok (o, c.read_step.new.reader)) c.in-Some.is c.in_ok-read_step.ensures) c.loop.invariant)

pub returns : goal.returns
returns g c = rw c.place.ensures (until_runs_out g.T.Marked.form.read c.loop.items.items c.args.most c.loop.counter c.loop.reader (behind_all c.args.before.items (until_at g.T.Marked.form.read c.args.most c.args.reader.now)) c.loop-test.false c.loop.invariant)
