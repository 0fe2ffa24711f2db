use Rattle.std.proofs.Common.{inr, refl}
use Rattle.kp_turn.specs.TurnSeats.{view}
use Rattle.kp_dispatch.proofs.Rounding.{untorn}
use Rattle.kp_dispatch.proofs.ServedRounds.{round_left}
use Rattle.kp_dispatch.proofs.rounds.turn_round.Goals as goal

pub returns-in-Ok-clause-tells : goal.returns-in-Ok-clause-tells
returns-in-Ok-clause-tells g c = round_left (g.C.Clock.may c.args.clock.now) c.args.conn (g.W.Sink.held c.args.output.now) (g.W.Sink.held c.leave.new.output) (g.W.Sink.faults c.args.output.now) (g.W.Sink.faults c.leave.new.output)
    c.args.seat.now record { turn = c.think_round.new.seat; stop = c.args.seat.now.stop; links = c.leave.new.seats; told = c.think_round.new.told } c.args.piece c.in-Ok.round c.leave.result c.in-Ok.ensures.tells c.leave.ensures.posts c.leave.ensures.tells refl

pub end_of-requires : goal.end_of-requires
end_of-requires g c = untorn (g.C.Clock.may c.args.clock.now) c.in-Err.refusal (view c.think_round.new.seat) c.in-Err.ensures.tells.0 c.in-Err.ensures.tells.1.1.cause

pub returns-in-Err-clause-tells : goal.returns-in-Err-clause-tells
returns-in-Err-clause-tells g c = inr (c.in-Err.refusal, c.end_of.ensures, c.in-Err.ensures.tells, refl, refl, refl, refl)
