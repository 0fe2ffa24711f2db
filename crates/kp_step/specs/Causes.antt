-- Where a refusal may come from.
use Rattle.std.specs.Prelude.{◌≡◌, ◌==◌, ◌&&◌, ℕ, Bool, true, false, not, nat_lt, List, Option, Some, None}
use Rattle.std.specs.List.{AllByRecursion}
use Rattle.kp_model.specs.declared.entry.Body.{Body}
use Rattle.kp_model.specs.declared.entry.Body.TheVariants as body
use Rattle.kp_model.specs.declared.reply.Reply.{Reply}
use Rattle.kp_model.specs.declared.reply.Reply.TheVariants as reply
use Rattle.kp_model.specs.declared.session.Origin.{Origin}
use Rattle.kp_model.specs.LogEntry.{LogEntry}
use Rattle.kp_model.specs.State.{State, same_origin}
use Rattle.kp_model.specs.Step.{apply}
use Rattle.kp_model.specs.Taken.{is_stale}
use Rattle.kp_step.specs.Node.{Node, Images}
use Rattle.kp_step.specs.Answers.{Cause, by_state, by_entry, by_lack, by_term, by_move, by_end}
use Rattle.kp_step.specs.Settling.{Told}
use Rattle.kp_step.specs.Step.{Stepped, step}
use Rattle.kp_step.specs.Choices.{Choices}
use Rattle.kp_step.specs.Asking.{Words}
use Rattle.kp_raft.specs.declared.mail.Mail.{Mail}
use Rattle.kp_event.specs.declared.event.NodeEvent.{NodeEvent}

-- whether an entry with this reply took the session over for another than this connection
abbrev pub takes_away : Origin → ℕ → Body → Reply → Bool
takes_away mine session (body.Attach s passwd origin) (reply.Epoch epoch) = session == s && not (same_origin origin mine)
takes_away mine session b r = false

-- whether an entry with this reply is the session's expiry
abbrev pub expires : ℕ → Body → Reply → Bool
expires session (body.Expire s) r = not (is_stale r) && session == s
expires session b r = false

-- whether an entry that is applied on a state, if there is one, passes the test
abbrev pub applied_is : (Body → Reply → Bool) → State → Option LogEntry → Bool
applied_is f s None = false
applied_is f s (Some e) = f e.body (apply s e).reply

-- -4 to what waits comes only where the term rises, -118 only where the entry that is applied takes the session over, and -112 to what waits only where that entry is the session's expiry
abbrev pub IsCaused : Node → Bool → Option LogEntry → ℕ → Told → Cause → Type 0
IsCaused x risen e k t by_state = Unit {0}
IsCaused x risen e k t by_entry = Unit {0}
IsCaused x risen e k t by_lack = Unit {0}
IsCaused x risen e k t by_term = risen ≡ true
IsCaused x risen e k t by_move = applied_is (takes_away (record { node = x.me; boot = x.boot; conn = k }) t.session) x.state e ≡ true
IsCaused x risen e k t by_end = applied_is (expires t.session) x.state e ≡ true

abbrev pub AreCaused : Node → Bool → Option LogEntry → (ℕ → List Told) → Type 0
AreCaused x risen e told = (k : ℕ) → AllByRecursion (λ (t : Told). IsCaused x risen e k t t.cause) (told k)

abbrev pub AreCausedIn : {I : Type 0} → Node → Stepped I → Type 0
AreCausedIn x o = AreCaused x (nat_lt x.held.term o.node.held.term) o.applied o.told

-- of each step of each node
abbrev pub RefusalsAreCaused : Type 0 → Type 0
RefusalsAreCaused I = (words : Words) (im : Images I) (ch : Choices) (x : Node) (v : NodeEvent (Mail I)) → AreCausedIn x (step words im ch x v)
