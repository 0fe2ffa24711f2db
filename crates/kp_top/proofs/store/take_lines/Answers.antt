use Rattle.std.proofs.Common.{◌≡◌, ◌∙◌, refl, ap, arith, Some, []}
use Rattle.kp_model.specs.Store.{last}
use Rattle.kp_top.specs.Transcript.{Work, transcript, bad_line}
use Rattle.kp_top.proofs.Runs.{begins, ends, none_bad, go_on, part_on, kept_part, stops, bad_on, bad_found, count_on, blank_last}
use Rattle.kp_top.proofs.store.take_lines.Goals as goal

pub loop-line-init : goal.loop-line-init
loop-line-init g c = record {
  wrote = begins c.args.work.now (g.W.Sink.held c.args.output.now) c.args.text.now c.requires.blank;
  bad = refl;
  count = omega (arith, ap (λ (x : Work). last x.store) c.requires.blank, blank_last);
  room = omega arith;
  quiet = refl;
}

pub returns-in-Bad-clause-bad : goal.returns-in-Bad-clause-bad
returns-in-Bad-clause-bad g c m e =
    let same : c.loop-line.n ≡ m = cc in (
      bad_found (g.W.Sink.held c.loop-line.output) (g.W.Sink.held c.take_line.new.output) c.loop-line.work c.take_line.new.work c.loop-line.n c.loop-line.rest.now c.in-Some.after.now c.in-Some.line.now (bad_line c.args.text.now) c.in-Some.ensures.0 c.loop-line.invariant.bad c.in-Bad.ensures.told ∙ ap Some same,
      stops (g.W.Sink.held c.args.output.now) (g.W.Sink.held c.loop-line.output) (g.W.Sink.held c.take_line.new.output) c.loop-line.work c.take_line.new.work c.loop-line.n c.loop-line.rest.now c.in-Some.after.now c.in-Some.line.now (transcript c.args.text.now) c.in-Some.ensures.0 c.loop-line.invariant.wrote c.in-Bad.ensures.told,
    )

pub returns-in-Bad-clause-part : goal.returns-in-Bad-clause-part
returns-in-Bad-clause-part g c =
    ([], stops (g.W.Sink.held c.args.output.now) (g.W.Sink.held c.loop-line.output) (g.W.Sink.held c.take_line.new.output) c.loop-line.work c.take_line.new.work c.loop-line.n c.loop-line.rest.now c.in-Some.after.now c.in-Some.line.now (transcript c.args.text.now) c.in-Some.ensures.0 c.loop-line.invariant.wrote c.in-Bad.ensures.told)

pub returns-in-NoMemory-clause-part : goal.returns-in-NoMemory-clause-part
returns-in-NoMemory-clause-part g c =
    kept_part (g.W.Sink.held c.args.output.now) (g.W.Sink.held c.loop-line.output) (g.W.Sink.held c.take_line.new.output) c.loop-line.work c.take_line.new.work c.loop-line.n c.loop-line.rest.now c.in-Some.after.now c.in-Some.line.now (transcript c.args.text.now) c.in-Some.ensures.0 c.loop-line.invariant.wrote c.in-NoMemory.ensures.told

pub returns-in-WriteFault-clause-part : goal.returns-in-WriteFault-clause-part
returns-in-WriteFault-clause-part g c =
    part_on (g.W.Sink.held c.args.output.now) (g.W.Sink.held c.loop-line.output) (g.W.Sink.held c.take_line.new.output) c.loop-line.work c.take_line.new.work c.loop-line.n c.loop-line.rest.now c.in-Some.after.now c.in-Some.line.now (transcript c.args.text.now) c.in-Some.ensures.0 c.loop-line.invariant.wrote c.in-WriteFault.ensures.told

pub loop-line-preserved : goal.loop-line-preserved
loop-line-preserved g c =
    let told = c.in-Printed.ensures.told in record {
      wrote = go_on (g.W.Sink.held c.args.output.now) (g.W.Sink.held c.loop-line.output) (g.W.Sink.held c.take_line.new.output) c.loop-line.work c.take_line.new.work c.loop-line.n c.loop-line.rest.now c.in-Some.after.now c.in-Some.line.now (transcript c.args.text.now) c.in-Some.ensures.0 c.loop-line.invariant.wrote told;
      bad = bad_on (g.W.Sink.held c.loop-line.output) (g.W.Sink.held c.take_line.new.output) c.loop-line.work c.take_line.new.work c.loop-line.n c.loop-line.rest.now c.in-Some.after.now c.in-Some.line.now (bad_line c.args.text.now) c.in-Some.ensures.0 c.loop-line.invariant.bad told;
      count = count_on (g.W.Sink.held c.loop-line.output) (g.W.Sink.held c.take_line.new.output) c.loop-line.work c.take_line.new.work c.loop-line.n c.in-Some.line.now told c.loop-line.invariant.count;
      room = omega (arith, c.in-Some.ensures.1, c.loop-line.invariant.room);
      quiet = c.take_line.ensures.quiet (λ e. absurd (cc)) ∙ c.loop-line.invariant.quiet;
    }

pub returns-clause-done : goal.returns-clause-done
returns-clause-done g c e = (
  none_bad c.loop-line.n c.loop-line.rest.now (bad_line c.args.text.now) c.in_default.ensures c.loop-line.invariant.bad,
  ends (g.W.Sink.held c.args.output.now) (g.W.Sink.held c.loop-line.output) c.loop-line.work c.loop-line.n c.loop-line.rest.now (transcript c.args.text.now) c.in_default.ensures c.loop-line.invariant.wrote,
)
