-- What an applied entry means for the connection of its session, found by the index of sessions.
use Rattle.std.specs.Prelude.{◌≡◌, ℕ, not, ◌&&◌, if◌then◌else◌, Bool, Option, Some}
use Rattle.std.specs.Option.{option_map}
use Rattle.std.specs.FinMap as map
use Rattle.kp_seats.specs.Seating.{Seating}
use Rattle.kp_seats.specs.Serving.{is_that}
use Rattle.kp_wire.specs.declared.reply.WireReply.{WireReply}
use Rattle.kp_wire.specs.declared.reply.WireReply.TheVariants as sent
use Rattle.kp_step.specs.declared.seat.Seat.{Seat}
use Rattle.kp_step.specs.Node.{Seats}
use Rattle.kp_step.specs.Answers.{Cause, by_move, by_end, code_of}
use Rattle.kp_step.specs.Settling.{refused_if}
use Rattle.kp_step.specs.Tables.{seated}
use Rattle.kp_step.specs.Committing.{is_of, is_in}
use Rattle.kp_node.specs.Holding.{served_at}
use Rattle.kp_node.specs.Telling.{replied_by}

-- the reply to what waits where the session was taken over, and where it expired
abbrev pub moved : WireReply
moved = sent.Err (code_of by_move)

abbrev pub expired : WireReply
expired = sent.Err (code_of by_end)

-- each live connection is in the index of sessions; a connection that is over may be there still
abbrev pub IsIndexed : Seating Seat → Type 0
IsIndexed t = (k session : ℕ) → served_at (map.get t.seats k) ≡ Some session → map.get t.sessions k ≡ Some session

-- a seat where all that waits is refused, if it is of the session
abbrev pub refused_seat : ℕ → Bool → Option ℕ → ℕ → Cause → Seat → Seat
refused_seat session may n zxid cause s = seated s (refused_if (is_of session s.connection.phase && may) n zxid cause s.connection).connection

-- for whatever cause this is the reply of, by some luck
abbrev pub SeatRefuses : ℕ → Bool → ℕ → WireReply → ℕ → Seat → Seat → Type 0
SeatRefuses session may zxid r k s s' = (cause : Cause) → sent.Err (code_of cause) ≡ r → (n : Option ℕ) × (s' ≡ refused_seat session may n zxid cause s)

-- by some luck each connection of the session refuses all that waits, but for one that is spared
abbrev pub AreEnded : ℕ → Option ℕ → ℕ → WireReply → Seats → Seats → Type 0
AreEnded session spared zxid r old new = (cause : Cause) → sent.Err (code_of cause) ≡ r → (k : ℕ) → (n : Option ℕ) × (map.get new k ≡ option_map (refused_seat session (not (is_that spared k)) n zxid cause) (map.get old k))

-- a seat whose write with the number keeps its answer, if it is of the session and the epoch
abbrev pub replied_seat : ℕ → ℕ → ℕ → Option WireReply → Seat → Seat
replied_seat session epoch seq r s = seated s (if is_in session epoch s.connection.phase then replied_by seq r s.connection else s.connection)

abbrev pub SeatKeeps : ℕ → ℕ → ℕ → Option WireReply → ℕ → Seat → Seat → Type 0
SeatKeeps session epoch seq r k s s' = s' ≡ replied_seat session epoch seq r s

-- of each connection of the session and the epoch
abbrev pub AreReplied : ℕ → ℕ → ℕ → Option WireReply → Seats → Seats → Type 0
AreReplied session epoch seq r old new = (k : ℕ) → map.get new k ≡ option_map (replied_seat session epoch seq r) (map.get old k)
