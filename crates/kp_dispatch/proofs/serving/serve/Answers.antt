use Rattle.std.proofs.Common.{[], refl}
use Rattle.kp_dispatch.proofs.ServedRounds.{goes_none, goes_read, goes_round, serves_round, serves_stopped, serves_took}
use Rattle.kp_dispatch.proofs.serving.serve.Goals as goal

pub loop-init : goal.loop-init
loop-init g c = record { seat = c.requires; goes = ([], [], goes_none (g.C.Clock.may c.args.clock.now) c.args.conn (g.S.Stream.told c.args.input.now) (g.S.Stream.ended c.args.input.now) (g.S.Stream.faults c.args.input.now) (g.W.Sink.held c.args.output.now) (g.W.Sink.faults c.args.output.now) c.args.seat.now) }

pub returns-then-load-clause-serves : goal.returns-then-load-clause-serves
returns-then-load-clause-serves g c = let h = c.loop.invariant.goes in
    serves_stopped (g.C.Clock.may c.args.clock.now) c.args.conn (g.S.Stream.told c.args.input.now) (g.S.Stream.ended c.args.input.now) (g.S.Stream.faults c.args.input.now) (g.W.Sink.held c.args.output.now) (g.W.Sink.faults c.args.output.now) c.args.seat.now (g.S.Stream.told c.loop.input) (g.S.Stream.ended c.loop.input) (g.S.Stream.faults c.loop.input) (g.W.Sink.held c.loop.output) (g.W.Sink.faults c.loop.output) c.loop.seat h.0 h.1 h.2 (record { turn = c.loop.seat.turn; stop = c.load.new.seat; links = c.loop.seat.links; told = c.loop.seat.told }) refl refl c.if-load.ensures.view

pub returns-in-Err-clause-serves : goal.returns-in-Err-clause-serves
returns-in-Err-clause-serves g c = let h = c.loop.invariant.goes in
    serves_took (g.C.Clock.may c.args.clock.now) c.args.conn (g.S.Stream.told c.args.input.now) (g.S.Stream.ended c.args.input.now) (g.S.Stream.faults c.args.input.now) (g.W.Sink.held c.args.output.now) (g.W.Sink.faults c.args.output.now) c.args.seat.now (g.S.Stream.told c.loop.input) (g.S.Stream.ended c.loop.input) (g.S.Stream.faults c.loop.input) (g.W.Sink.held c.loop.output) (g.W.Sink.faults c.loop.output) (record { turn = c.loop.seat.turn; stop = c.load.new.seat; links = c.loop.seat.links; told = c.loop.seat.told }) h.0 h.1 (goes_read (g.C.Clock.may c.args.clock.now) c.args.conn (g.S.Stream.told c.args.input.now) (g.S.Stream.ended c.args.input.now) (g.S.Stream.faults c.args.input.now) (g.W.Sink.held c.args.output.now) (g.W.Sink.faults c.args.output.now) c.args.seat.now (g.S.Stream.told c.loop.input) (g.S.Stream.ended c.loop.input) (g.S.Stream.faults c.loop.input) (g.W.Sink.held c.loop.output) (g.W.Sink.faults c.loop.output) c.loop.seat h.0 h.1 h.2 (record { turn = c.loop.seat.turn; stop = c.load.new.seat; links = c.loop.seat.links; told = c.loop.seat.told }) refl refl c.if-load.ensures.view) (g.S.Stream.told c.take_piece.new.input) (g.S.Stream.ended c.take_piece.new.input) (g.S.Stream.faults c.take_piece.new.input) c.in-Err.end c.in-Err.ensures.tells

pub returns-in-Err-turn_round-clause-serves : goal.returns-in-Err-turn_round-clause-serves
returns-in-Err-turn_round-clause-serves g c = let h = c.loop.invariant.goes in
    serves_round (g.C.Clock.may c.args.clock.now) c.args.conn (g.S.Stream.told c.args.input.now) (g.S.Stream.ended c.args.input.now) (g.S.Stream.faults c.args.input.now) (g.W.Sink.held c.args.output.now) (g.W.Sink.faults c.args.output.now) c.args.seat.now (g.S.Stream.told c.loop.input) (g.S.Stream.ended c.loop.input) (g.S.Stream.faults c.loop.input) (g.W.Sink.held c.loop.output) (g.W.Sink.faults c.loop.output) (record { turn = c.loop.seat.turn; stop = c.load.new.seat; links = c.loop.seat.links; told = c.loop.seat.told }) h.0 h.1 (g.S.Stream.told c.take_piece.new.input) (g.S.Stream.ended c.take_piece.new.input) (g.S.Stream.faults c.take_piece.new.input) (g.W.Sink.held c.turn_round.new.output) (g.W.Sink.faults c.turn_round.new.output) c.turn_round.new.seat c.in-Ok.piece (goes_read (g.C.Clock.may c.args.clock.now) c.args.conn (g.S.Stream.told c.args.input.now) (g.S.Stream.ended c.args.input.now) (g.S.Stream.faults c.args.input.now) (g.W.Sink.held c.args.output.now) (g.W.Sink.faults c.args.output.now) c.args.seat.now (g.S.Stream.told c.loop.input) (g.S.Stream.ended c.loop.input) (g.S.Stream.faults c.loop.input) (g.W.Sink.held c.loop.output) (g.W.Sink.faults c.loop.output) c.loop.seat h.0 h.1 h.2 (record { turn = c.loop.seat.turn; stop = c.load.new.seat; links = c.loop.seat.links; told = c.loop.seat.told }) refl refl c.if-load.ensures.view) c.in-Ok.ensures.tells.0 c.in-Err-turn_round.end c.in-Err-turn_round.ensures.tells

pub loop-preserved : goal.loop-preserved
loop-preserved g c = let h = c.loop.invariant.goes in record {
  seat = c.turn_round.ensures.seat;
  goes = goes_round (g.C.Clock.may c.args.clock.now) c.args.conn (g.S.Stream.told c.args.input.now) (g.S.Stream.ended c.args.input.now) (g.S.Stream.faults c.args.input.now) (g.W.Sink.held c.args.output.now) (g.W.Sink.faults c.args.output.now) c.args.seat.now (g.S.Stream.told c.loop.input) (g.S.Stream.ended c.loop.input) (g.S.Stream.faults c.loop.input) (g.W.Sink.held c.loop.output) (g.W.Sink.faults c.loop.output) (record { turn = c.loop.seat.turn; stop = c.load.new.seat; links = c.loop.seat.links; told = c.loop.seat.told }) h.0 h.1 (g.S.Stream.told c.take_piece.new.input) (g.S.Stream.ended c.take_piece.new.input) (g.S.Stream.faults c.take_piece.new.input) (g.W.Sink.held c.turn_round.new.output) (g.W.Sink.faults c.turn_round.new.output) c.turn_round.new.seat c.in-Ok.piece (goes_read (g.C.Clock.may c.args.clock.now) c.args.conn (g.S.Stream.told c.args.input.now) (g.S.Stream.ended c.args.input.now) (g.S.Stream.faults c.args.input.now) (g.W.Sink.held c.args.output.now) (g.W.Sink.faults c.args.output.now) c.args.seat.now (g.S.Stream.told c.loop.input) (g.S.Stream.ended c.loop.input) (g.S.Stream.faults c.loop.input) (g.W.Sink.held c.loop.output) (g.W.Sink.faults c.loop.output) c.loop.seat h.0 h.1 h.2 (record { turn = c.loop.seat.turn; stop = c.load.new.seat; links = c.loop.seat.links; told = c.loop.seat.told }) refl refl c.if-load.ensures.view) c.in-Ok.ensures.tells.0 c.in-Ok.ensures.tells.1 c.in-Ok-turn_round.ensures.tells;
}
