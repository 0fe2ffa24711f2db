use Rattle.kp_turn.specs.TurnSeats.{view}
use Rattle.kp_served.proofs.Lasting.{held_lasts}
use Rattle.kp_served.proofs.laws.count_found.Goals as goal

pub returns-clause-found : goal.returns-clause-found
returns-clause-found g c = held_lasts {G = g.H.Disk} g.H.Disk.held g.H.Disk.past g.H.Disk.faults (λ s. s.kept) (view c.count.new.seat).start (view c.count.new.seat).seen c.count.ensures.history
