-- The session that an entry opens or gives over, as it will stand behind the entry.
use Rattle.std.specs.Prelude.{◌≡◌, ℕ, Bool, true, false, Option, Some, None}
use Rattle.std.specs.Ordering.{nat_cmp}
use Rattle.std.specs.FinMap as map
use Rattle.std.specs.FinMap.{FinMap}
use Rattle.kp_model.specs.declared.entry.Body.{Body}
use Rattle.kp_model.specs.declared.entry.Body.TheVariants as body
use Rattle.kp_model.specs.declared.reply.Reply.{Reply}
use Rattle.kp_model.specs.declared.reply.Reply.TheVariants as reply
use Rattle.kp_model.specs.declared.session.Session.{Session}
use Rattle.kp_model.specs.LogEntry.{LogEntry}
use Rattle.kp_model.specs.State.{State, Sessions}
use Rattle.kp_model.specs.Step.{Outcome, apply}
use Rattle.kp_expiry.specs.declared.heard.Heard.{Heard}
use Rattle.kp_step.specs.Node.{heard_at}
use Rattle.kp_step.specs.Committing.{session_of, session_at, heard_behind}
use Rattle.kp_node.specs.declared.welcoming.Welcome.{Welcome}

-- of this number, as it stands
abbrev pub welcome_in : Option ℕ → Option Session → Option Welcome
welcome_in None x = None
welcome_in (Some id) None = None
welcome_in (Some id) (Some x) = Some (record { id = id; timeout = x.timeout; passwd = x.passwd; epoch = x.epoch })

-- behind what an entry gives
abbrev pub welcome_at : Body → Outcome → Option Welcome
welcome_at b o = welcome_in (session_of b o.reply) (session_at o.state (session_of b o.reply))

-- found before it, from the sessions of then, the body and the reply
abbrev pub taken_over : ℕ → ℕ → Option Session → Option Welcome
taken_over session epoch None = None
taken_over session epoch (Some x) = Some (record { id = session; timeout = x.timeout; passwd = x.passwd; epoch = epoch })

abbrev pub welcome_by : Sessions → Body → Reply → Option Welcome
welcome_by m (body.OpenSession timeout passwd o) (reply.Session id) = Some (record { id = id; timeout = timeout; passwd = passwd; epoch = 1 })
welcome_by m (body.Attach session passwd o) (reply.Epoch epoch) = taken_over session epoch (map.get m session)
welcome_by m b r = None

-- whether a body opens a session or takes one over
abbrev pub asks_session : Body → Bool
asks_session (body.OpenSession timeout passwd o) = true
asks_session (body.Attach session passwd o) = true
asks_session b = false

-- the session is heard
abbrev pub heard_of : ℕ → Option Welcome → FinMap nat_cmp Heard → FinMap nat_cmp Heard
heard_of now None m = m
heard_of now (Some w) m = map.insert m w.id (heard_at now w.id w.timeout)

-- so what is found before the entry is applied is what stands behind it
abbrev pub WelcomeIsBehind : Type 0
WelcomeIsBehind = (s : State) (e : LogEntry) → asks_session e.body ≡ true → welcome_by s.sessions e.body (apply s e).reply ≡ welcome_at e.body (apply s e)

-- and the session is heard with the timeout that was found
abbrev pub HeardIsBehind : Type 0
HeardIsBehind = (s : State) (e : LogEntry) (now : ℕ) (m : FinMap nat_cmp Heard) → asks_session e.body ≡ true
    → heard_of now (welcome_by s.sessions e.body (apply s e).reply) m ≡ heard_behind now e.body (apply s e).reply (apply s e).state m
