use Rattle.std.proofs.Common.{◌∙◌, ap}
use Rattle.std.specs.Prelude.{if◌then◌else◌}
use Rattle.kp_seats.specs.Seating.{removed}
use Rattle.kp_node.proofs.Came.{over_seats, over_watches}
use Rattle.kp_node.proofs.coming.take_ready.Goals as goal

pub returns-clause-seats : goal.returns-clause-seats
returns-clause-seats c = c.take_away_if.ensures.seats ∙ ap (λ t. if c.in_ok-ready.ready.over then removed t c.args.conn else t) c.in_ok-ready.ensures.seats ∙ over_seats c.args.seats.now c.args.watches.now c.args.conn _ c.in_ok-ready.ready c.in_ok-ready.ensures.piece

pub returns-clause-watches : goal.returns-clause-watches
returns-clause-watches c = c.take_away_if.ensures.watches ∙ over_watches c.args.seats.now c.args.watches.now c.args.conn _ c.in_ok-ready.ready c.in_ok-ready.ensures.piece
