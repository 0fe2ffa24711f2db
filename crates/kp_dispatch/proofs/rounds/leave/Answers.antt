use Rattle.std.proofs.Common.{sym, subst, ◌∙◌}
use Rattle.kp_shared.proofs.MailsOf.{posts_thought}
use Rattle.kp_dispatch.specs.Rounds.{LeaveTells, judged, thoughts_of}
use Rattle.kp_dispatch.proofs.Leaving.{leave_tells}
use Rattle.kp_dispatch.proofs.rounds.leave.Goals as goal

pub returns-clause-posts : goal.returns-clause-posts
returns-clause-posts g c = posts_thought c.args.round.front.items c.args.round.drained c.args.seats.now c.post_front-bad.new.seats c.post_thought-said.new.seats c.post_front-bad.ensures.posts c.post_thought-said.ensures.posts

pub returns-clause-tells : goal.returns-clause-tells
returns-clause-tells g c = subst (λ r. LeaveTells (g.W.Sink.held c.args.output.now) (g.W.Sink.held c.write_out-written.new.output) (g.W.Sink.faults c.args.output.now) (g.W.Sink.faults c.write_out-written.new.output) (thoughts_of c.args.round) r) (sym c.judge.ensures)
    (subst (λ b. LeaveTells (g.W.Sink.held c.args.output.now) (g.W.Sink.held c.write_out-written.new.output) (g.W.Sink.faults c.args.output.now) (g.W.Sink.faults c.write_out-written.new.output) (thoughts_of c.args.round) (judged b c.write_out-written.result)) (sym c.post_front-bad.ensures.bad)
    (leave_tells (g.W.Sink.held c.args.output.now) (g.W.Sink.held c.write_out-written.new.output) (g.W.Sink.faults c.args.output.now) (g.W.Sink.faults c.write_out-written.new.output) c.args.round.front.items c.args.round.drained c.drained_piece.result c.write_out-written.result c.requires.round.0 (sym c.post_thought-said.ensures.said ∙ c.drained_piece.ensures) c.write_out-written.ensures))
