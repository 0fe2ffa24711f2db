-- What becomes of the connections where the term rose.
use Rattle.std.specs.Prelude.{◌≡◌, ℕ, false, nat_lt, length, Option}
use Rattle.kp_conn.specs.declared.phase.Phase.{Phase}
use Rattle.kp_conn.specs.declared.phase.Phase.TheVariants as phase
use Rattle.kp_conn.specs.Connection.{Connection, closed}
use Rattle.kp_step.specs.declared.seat.Seat.{Seat}
use Rattle.kp_step.specs.Answers.{by_term}
use Rattle.kp_step.specs.Settling.{refused_if}
use Rattle.kp_step.specs.Tables.{seated}
use Rattle.kp_step.specs.Step.{ended}

-- a connection behind a risen term, where so many answers of what waits find memory
abbrev pub risen_as : Option ℕ → ℕ → Phase → Connection → Connection
risen_as n zxid phase.Fresh c = c
risen_as n zxid (phase.Connecting ro) c = closed false c
risen_as n zxid (phase.Live s e k) c = (refused_if (nat_lt 0 (length c.queue)) n zxid by_term c).connection
risen_as n zxid (phase.Closing lost) c = c

abbrev pub risen_with : Option ℕ → ℕ → Connection → Connection
risen_with n zxid c = risen_as n zxid c.phase c

-- by some luck it is this
abbrev pub IsRisen : ℕ → Connection → Connection → Type 0
IsRisen zxid c c' = (n : Option ℕ) × (c' ≡ risen_with n zxid c)

abbrev pub IsSeatRisen : ℕ → ℕ → Seat → Seat → Type 0
IsSeatRisen zxid k s s' = (n : Option ℕ) × (s' ≡ seated s (risen_with n zxid s.connection))

-- a connection that ended with all others
abbrev pub IsSeatEnded : ℕ → Seat → Seat → Type 0
IsSeatEnded k s s' = s' ≡ seated s (ended k s.connection).connection
