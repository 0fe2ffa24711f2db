-- Why a connection ends.
use Rattle.std.specs.Prelude.{◌≡◌, ◌⊎◌, ◌==◌, ◌||◌, ℕ, Bool, true, false, nat_lt, List, [], ◌∷◌, if◌then◌else◌, Option, Some, None, is_some}
use Rattle.std.specs.Ordering.{nat_cmp, eq_by_cmp}
use Rattle.std.specs.FinMap as map
use Rattle.kp_model.specs.LogEntry.{LogEntry}
use Rattle.kp_model.specs.Step.{apply}
use Rattle.kp_model.specs.Taken.{is_stale}
use Rattle.kp_raft.specs.declared.mail.Mail.{Mail}
use Rattle.kp_event.specs.declared.event.NodeEvent.{NodeEvent}
use Rattle.kp_event.specs.declared.event.NodeEventKind.{NodeEventKind}
use Rattle.kp_event.specs.declared.event.NodeEventKind.TheVariants as kind
use Rattle.kp_wire.specs.declared.connect.ConnectRequest.{ConnectRequest}
use Rattle.kp_conn.specs.declared.fed.Fed.{Fed}
use Rattle.kp_conn.specs.declared.fed.FedEnd.TheVariants as ends
use Rattle.kp_conn.specs.declared.phase.Phase.{Phase}
use Rattle.kp_conn.specs.declared.phase.Phase.TheVariants as phase
use Rattle.kp_conn.specs.Connection.{Connection, is_over, is_lost}
use Rattle.kp_conn.specs.Queue.{is_close}
use Rattle.kp_conn.specs.Fed.{fed, nothing}
use Rattle.kp_step.specs.declared.seat.Seat.{Seat}
use Rattle.kp_step.specs.Choices.{Choices}
use Rattle.kp_step.specs.Node.{Node, Images}
use Rattle.kp_step.specs.Settling.{Told}
use Rattle.kp_step.specs.Handing.{is_refused, is_led, ground, desk}
use Rattle.kp_step.specs.Applying.{upcoming}
use Rattle.kp_step.specs.Committing.{newcomer, session_of, session_at, number_in}
use Rattle.kp_step.specs.Asking.{Words}
use Rattle.kp_step.specs.Step.{Stepped, step}
use Rattle.kp_step.specs.Causes.{takes_away, expires}
use Rattle.kp_answers.specs.Whence.{phase_at}
use Rattle.kp_answers.specs.Refused.{served_by}

-- ---- by bytes of its client

-- what is read of a connection, where there is one
abbrev pub fed_at : Option Seat → List ℕ → Fed
fed_at None bytes = nothing
fed_at (Some s) bytes = (fed s.connection bytes).1

-- a frame that is none; a four-letter word; a connect request that is refused, or for which no leader is known
abbrev pub EndsByBytes : Node → ℕ → Fed → Type 0
EndsByBytes x now f = ((at : ℕ) × (f.end ≡ ends.Bad at)) ⊎ (((w : List ℕ) × (f.end ≡ ends.Word w)) ⊎ ((q : ConnectRequest) × (f.connect ≡ Some q) × ((is_refused q ≡ true) ⊎ (is_led (ground now x.state x) (desk x) ≡ false))))

-- ---- by an entry that is applied

abbrev pub is_waiting : Phase → Bool
is_waiting (phase.Connecting ro) = true
is_waiting p = false

abbrev pub kept_at : Option Seat → List ℕ
kept_at None = []
kept_at (Some s) = s.connection.kept

-- the entry is the one for which the connection waited; and it got no session, or what it kept meanwhile holds a frame that is none
abbrev pub EndsByGreeting : Node → LogEntry → ℕ → Option Seat → Type 0
EndsByGreeting x e k o = (is_waiting (phase_at o) ≡ true) × ((if is_stale (apply x.state e).reply then None else newcomer x.me x.boot e.body) ≡ Some k)
    × (((session_at (apply x.state e).state (session_of e.body (apply x.state e).reply) ≡ None) ⊎ ((number_in (session_of e.body (apply x.state e).reply) == 0) ≡ true))
    ⊎ ((c : Connection) × (c.kept ≡ kept_at o) × (at : ℕ) × ((fed c []).1.end ≡ ends.Bad at)))

-- its session was taken over, or expired; or that
abbrev pub EndsByEntry : Node → Option LogEntry → ℕ → Option Seat → Type 0
EndsByEntry x None k o = ⊥
EndsByEntry x (Some e) k o = (takes_away (record { node = x.me; boot = x.boot; conn = k }) (served_by (phase_at o)) e.body (apply x.state e).reply ≡ true)
    ⊎ ((expires (served_by (phase_at o)) e.body (apply x.state e).reply ≡ true) ⊎ EndsByGreeting x e k o)

-- ---- the law

-- by the kind of the event; a risen term or an image ends it at a message or a timeout
abbrev pub EndsBy : {M : Type 0} → Node → ℕ → Bool → Bool → ℕ → Option Seat → NodeEventKind M → Type 0
EndsBy x now rose image k o (kind.Client j bytes) = EndsByBytes x now (fed_at o bytes)
EndsBy x now rose image k o kind.CommitOne = EndsByEntry x (upcoming x) k o
EndsBy x now rose image k o (kind.Deliver m) = (rose ≡ true) ⊎ (image ≡ true)
EndsBy x now rose image k o kind.Timeout = (rose ≡ true) ⊎ (image ≡ true)
EndsBy x now rose image k o v = ⊥

-- the end of a session is among the answers
abbrev pub has_end : List Told → Bool
has_end [] = false
has_end (t ∷ ts) = is_close t.request.ask || has_end ts

abbrev pub hangs_up : {M : Type 0} → NodeEventKind M → ℕ → Bool
hangs_up (kind.Hangup j) k = eq_by_cmp nat_cmp k j
hangs_up v k = false

-- a connection that wasn't over: it is gone only by a hangup, and over only where it was given up for want of memory, its session's end was answered, or one of those causes is there
abbrev pub EndAt : {M : Type 0} → Node → ℕ → Bool → Bool → Bool → List Told → ℕ → NodeEventKind M → Option Seat → Option Seat → Type 0
EndAt x now rose image gone told k v None n = Unit {0}
EndAt x now rose image gone told k v (Some a) None = is_over a.connection.phase ≡ false → gone ≡ true
EndAt x now rose image gone told k v (Some a) (Some b) = is_over a.connection.phase ≡ false → is_over b.connection.phase ≡ true
    → (is_lost b.connection.phase ≡ true) ⊎ ((has_end told ≡ true) ⊎ EndsBy x now rose image k (Some a) v)

abbrev pub IsEndCaused : {I : Type 0} → Node → NodeEvent (Mail I) → Stepped I → ℕ → Type 0
IsEndCaused x v o k = EndAt x v.now (nat_lt x.held.term o.node.held.term) (is_some o.installed) (hangs_up v.kind k) (o.told k) k v.kind (map.get x.seats k) (map.get o.node.seats k)

-- of a connection that is over nothing waits
abbrev pub AllShutIsEmpty : Node → Type 0
AllShutIsEmpty x = (k : ℕ) (s : Seat) → map.get x.seats k ≡ Some s → is_over s.connection.phase ≡ true → s.connection.queue ≡ []

-- of each step of each node in which nothing waits of a connection that is over
abbrev pub EndsAreCaused : Type 0 → Type 0
EndsAreCaused I = (words : Words) (im : Images I) (ch : Choices) (x : Node) (v : NodeEvent (Mail I)) → AllShutIsEmpty x → (k : ℕ) → IsEndCaused x v (step words im ch x v) k
