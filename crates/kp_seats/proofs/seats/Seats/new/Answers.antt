use Rattle.std.proofs.Common.{ap}
use Rattle.kp_seats.specs.Index.{base_of}
use Rattle.kp_seats.proofs.Seated.{seated_none}
use Rattle.kp_seats.proofs.seats.Seats.new.Goals as goal

pub invariant_of-result : goal.invariant_of-result
invariant_of-result g c = seated_none c.new.result.entries c.new-2.result c.new-3.result.sessions c.new.ensures.empty c.new-2.ensures.empty (ap (λ s. s.sessions) c.new-3.ensures)

pub returns : goal.returns
returns g c = λ i. record { next = 1; seats = base_of (c.new.ensures.empty i); sessions = (c.new-3.ensures i).sessions; has_room = (c.new-3.ensures i).has_room }
