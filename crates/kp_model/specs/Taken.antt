-- Which bodies a leader takes into its log, and which entries come too late.
use Rattle.std.specs.Prelude.{ℕ, Bool, true, false, not, ◌&&◌, ◌||◌, ◌==◌, ◌+◌, nat_le, List, Option, Some, None, is_some}
use Rattle.std.specs.Ordering.{int_eq}
use Rattle.std.specs.Str.{bytes_eq}
use Rattle.std.specs.FinMap as map
use Rattle.kp_model.specs.declared.session.Session.{Session}
use Rattle.kp_model.specs.declared.session.Origin.{Origin}
use Rattle.kp_model.specs.declared.entry.Body.{Body}
use Rattle.kp_model.specs.declared.entry.Body.TheVariants as body
use Rattle.kp_model.specs.declared.reply.Reply.{Reply}
use Rattle.kp_model.specs.declared.reply.Reply.TheVariants as reply
use Rattle.kp_model.specs.Errors.{session_expired}
use Rattle.kp_model.specs.Limits.{last_number}
use Rattle.kp_model.specs.State.{State, is_held}

-- a session that an origin may open: the origin holds none, and there is a number left
abbrev pub may_open : State → Origin → Bool
may_open s origin = not (is_held s.sessions origin || nat_le last_number s.next)

-- a session that an origin may take over: the origin holds none, and there is an epoch left
abbrev pub may_join : State → Origin → Session → Bool
may_join s origin x = not (is_held s.sessions origin || nat_le last_number x.epoch)

-- an attach that is told the outcome: it takes the session over, or the session is dead or has another password
abbrev pub may_attach : State → List ℕ → Origin → Option Session → Bool
may_attach s passwd origin None = true
may_attach s passwd origin (Some x) = not (bytes_eq x.passwd passwd) || may_join s origin x

-- a live session that is in this epoch, and whose next running number is this one
abbrev pub is_next : ℕ → ℕ → Option Session → Bool
is_next epoch seq None = false
is_next epoch seq (Some x) = epoch == x.epoch && seq == x.seq + 1

-- what a leader whose uncommitted state is s takes from its clients, from other members and from its own clock: a write that is the next one of a live session, an opening, an attach that isn't too late, and the end of a live session
unfoldable pub would_take : State → Body → Bool
would_take s body.Noop = false
would_take s (body.OpenSession timeout passwd origin) = may_open s origin
would_take s (body.Attach session passwd origin) = may_attach s passwd origin (map.get s.sessions session)
would_take s (body.Expire session) = is_some (map.get s.sessions session)
would_take s (body.Write session epoch seq c) = is_next epoch seq (map.get s.sessions session)

abbrev pub is_noop : Body → Bool
is_noop body.Noop = true
is_noop _ = false

abbrev pub is_stale : Reply → Bool
is_stale reply.Stale = true
is_stale _ = false

-- the answer -112, of a session that is dead or has another password
abbrev pub is_expired : Reply → Bool
is_expired (reply.Err code) = int_eq code session_expired
is_expired _ = false

-- an entry that came too late: it is stale, or its session is dead, which only an attach is to be told
abbrev pub is_late : Body → Reply → Bool
is_late (body.Attach session passwd origin) r = is_stale r
is_late b r = is_stale r || is_expired r
