-- Which connections an applied entry concerns, and a change of all connections that changes one alone.
use Rattle.std.specs.Prelude.{◌≡◌, ℕ, Bool, false, Some}
use Rattle.std.specs.Ordering.{nat_cmp, eq_by_cmp}
use Rattle.std.specs.FinMap as map
use Rattle.kp_model.specs.declared.entry.Body.{Body}
use Rattle.kp_model.specs.declared.entry.Body.TheVariants as body
use Rattle.kp_model.specs.declared.reply.Reply.{Reply}
use Rattle.kp_conn.specs.declared.phase.Phase.{Phase}
use Rattle.kp_conn.specs.Connection.{Connection}
use Rattle.kp_step.specs.declared.seat.Seat.{Seat}
use Rattle.kp_step.specs.Choices.{Choices}
use Rattle.kp_step.specs.Node.{Seats}
use Rattle.kp_step.specs.Tables.{Row, row_at, mapped}
use Rattle.kp_step.specs.Committing.{is_of, is_in, meaning}

-- whether an entry of this body may mean something for a connection in this phase: it is of its session, and a write is of its epoch too
abbrev pub concerns : Body → Phase → Bool
concerns body.Noop p = false
concerns (body.OpenSession timeout passwd origin) p = false
concerns (body.Attach session passwd origin) p = is_of session p
concerns (body.Expire session) p = is_of session p
concerns (body.Write session epoch seq q) p = is_in session epoch p

-- a connection that the entry doesn't concern stays as it is
abbrev pub OthersStay : Type 0
OthersStay = (ch : Choices) (me boot zxid : ℕ) (b : Body) (r : Reply) (k : ℕ) (c : Connection) → concerns b c.phase ≡ false → (meaning ch me boot zxid b r k c).connection ≡ c

-- the change leaves each connection with another number as it is
abbrev pub ChangesAlone : Row → Seats → ℕ → Type 0
ChangesAlone f m k = (j : ℕ) (x : Seat) → eq_by_cmp nat_cmp j k ≡ false → map.get m j ≡ Some x → (f j x.connection).connection ≡ x.connection

abbrev pub ChangesNone : Row → Seats → Type 0
ChangesNone f m = (j : ℕ) (x : Seat) → map.get m j ≡ Some x → (f j x.connection).connection ≡ x.connection

-- so the change of all is that of the one
abbrev pub OneIsChanged : Type 0
OneIsChanged = (f : Row) (m : Seats) (k : ℕ) (x : Seat) → map.get m k ≡ Some x → ChangesAlone f m k → mapped (row_at f) m ≡ map.insert m k (row_at f k x)

abbrev pub NoneIsChanged : Type 0
NoneIsChanged = (f : Row) (m : Seats) → ChangesNone f m → mapped (row_at f) m ≡ m
