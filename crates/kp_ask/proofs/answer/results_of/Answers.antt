use Rattle.std.proofs.Common.{rules}
use Rattle.kp_ask.specs.Answers.{results_of}
use Rattle.kp_ask.proofs.Results.{results_more, results_all}
use Rattle.kp_ask.proofs.answer.results_of.Goals as goal

pub loop-op-preserved : goal.loop-op-preserved
loop-op-preserved c = let a = c.loop-op.op-iterator.a.rest.now in let b = c.loop-op.op-iterator.b.rest.now in
    results_more c.loop-op.results c.push.new.self (results_of c.args.ops.now c.args.replies.now) a c.next.new.self.a.rest.now b c.next.new.self.b.rest.now c.in-Some.op.now c.in-Some.reply.now
    c.in-Some.ensures.steps.0 c.in-Some.ensures.steps.1 (search rules) c.loop-op.invariant

pub returns : goal.returns
returns c = results_all c.loop-op.results (results_of c.args.ops.now c.args.replies.now) c.loop-op.op-iterator.a.rest.now c.loop-op.op-iterator.b.rest.now (search rules) c.loop-op.invariant
