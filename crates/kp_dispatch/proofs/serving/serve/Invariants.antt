use Rattle.std.proofs.Common.{List}
use Rattle.kp_io.specs.Streams.{Piece}
use Rattle.kp_shared.specs.Tasks.{Did}
use Rattle.kp_shared.specs.Sharing.{IsNodeSeatOf}
use Rattle.kp_dispatch.specs.Serving.{Goes}
use Rattle.kp_dispatch.proofs.serving.serve.Given as goal

abbrev pub invariant-loop : goal.invariant-loop
invariant-loop g l = record {
  seat : IsNodeSeatOf (λ s. g.K.Kept.life s.kept) l.node l.seat;
  goes : (taken : List Piece) × (ds : List (Did _))
      × Goes (g.C.Clock.may l.clock) l.conn (g.S.Stream.told l.fn.input) (g.S.Stream.told l.input) (g.S.Stream.ended l.fn.input) (g.S.Stream.ended l.input) (g.S.Stream.faults l.fn.input) (g.S.Stream.faults l.input)
      (g.W.Sink.held l.fn.output) (g.W.Sink.held l.output) (g.W.Sink.faults l.fn.output) (g.W.Sink.faults l.output) l.fn.seat l.seat taken ds;
}
