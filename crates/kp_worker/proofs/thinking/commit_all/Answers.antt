use Rattle.std.proofs.Common.{rules}
use Rattle.kp_worker.proofs.Thoughts.{commits_end, commits_go, commits_halt, commits_none}
use Rattle.kp_worker.proofs.thinking.commit_all.Goals as goal

pub loop-init : goal.loop-init
loop-init g c = record { seat = c.requires; commits = commits_none (g.C.Clock.may c.args.clock.now) c.args.seat.now c.args.notes.now.items }

pub returns-then-ends-clause-tells : goal.returns-then-ends-clause-tells
returns-then-ends-clause-tells g c = commits_end (g.C.Clock.may c.args.clock.now) c.args.seat.now c.loop.seat c.think_more.new.seat c.args.notes.now.items c.loop.notes.items c.think_more.new.notes.items c.in-Ok.ends c.loop.invariant.commits c.in-Ok.ensures.tells (search rules)

pub loop-preserved : goal.loop-preserved
loop-preserved g c = record {
  seat = c.think_more.ensures.seat;
  commits = commits_go (g.C.Clock.may c.args.clock.now) c.args.seat.now c.loop.seat c.think_more.new.seat c.args.notes.now.items c.loop.notes.items c.think_more.new.notes.items c.in-Ok.ends c.loop.invariant.commits c.in-Ok.ensures.tells (search rules);
}

pub returns-in-Err-clause-tells : goal.returns-in-Err-clause-tells
returns-in-Err-clause-tells g c = commits_halt (g.C.Clock.may c.args.clock.now) c.args.seat.now c.loop.seat c.think_more.new.seat c.args.notes.now.items c.loop.notes.items c.think_more.new.notes.items c.think_more.new.notes.items c.in-Err.refusal c.loop.invariant.commits c.in-Err.ensures.tells
