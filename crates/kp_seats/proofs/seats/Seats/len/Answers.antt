use Rattle.std.proofs.Common.{ap, sym, ◌∙◌}
use Rattle.std.specs.FinMap as map
use Rattle.kp_seats.proofs.Maps.{len-base_of}
use Rattle.kp_seats.proofs.seats.Seats.len.Goals as goal

pub returns : goal.returns
returns g c = c.len.ensures.len ∙ sym (len-base_of c.self.inside.seats.entries c.len.ensures.unique) ∙ ap (λ t. map.len t.seats) c.self.view_is
