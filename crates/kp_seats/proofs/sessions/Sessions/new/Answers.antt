use Rattle.std.proofs.Common.{ap, false}
use Rattle.kp_seats.specs.Index.{base_of}
use Rattle.kp_seats.proofs.sessions.Sessions.new.Goals as goal

pub returns : goal.returns
returns c = ap (λ es. record { sessions = base_of es; has_room = false }) c.new.ensures.empty
