-- Why the request at the front of a queue is answered, or waits.
use Rattle.std.specs.Prelude.{◌≡◌, ℕ, Bool, true, false, List, Option, Some, None, is_some}
use Rattle.std.specs.Option.{option_map}
use Rattle.kp_model.specs.State.{State}
use Rattle.kp_ask.specs.Asks.{command}
use Rattle.kp_wire.specs.declared.reply.WireReply.{WireReply}
use Rattle.kp_wire.specs.declared.reply.WireReply.TheVariants as sent
use Rattle.kp_watch.specs.declared.watch.Watch.{Watch}
use Rattle.kp_conn.specs.declared.waiting.Mark.{Mark}
use Rattle.kp_conn.specs.declared.waiting.Waiting.{Waiting}
use Rattle.kp_step.specs.Answers.{Answer, Cause, by_state, by_entry, by_lack, by_term, by_move, by_end, connection_loss, state_answer, answer_of}

-- the cause by what the request keeps: its reply, where its entry was applied; nothing yet, where it has a number; of what has none -4, where it is a write, and else the state
abbrev pub cause_by : Option WireReply → Option Mark → Bool → Option Cause
cause_by (Some r) m write = Some by_entry
cause_by None (Some m) write = None
cause_by None None true = Some by_lack
cause_by None None false = Some by_state

abbrev pub is_write : Waiting → Bool
is_write w = is_some (command w.request.ask)

-- on every state: a front is answered for the cause that it has, and for no other, and waits exactly where it has none
abbrev pub FrontsHaveCauses : Type 0
FrontsHaveCauses = (s : State) (session k : ℕ) (ws : List Watch) (w : Waiting) → option_map (λ (a : Answer). a.cause) (answer_of s session k ws w) ≡ cause_by w.reply w.mark (is_write w)

-- what each cause is answered: the reply that was kept of the entry, what the state answers, or -4
abbrev pub IsAnsweredBy : State → ℕ → ℕ → List Watch → Waiting → Answer → Cause → Type 0
IsAnsweredBy s session k ws w a by_state = a ≡ state_answer s session k ws w.request.ask
IsAnsweredBy s session k ws w a by_entry = w.reply ≡ Some a.reply
IsAnsweredBy s session k ws w a by_lack = a.reply ≡ sent.Err connection_loss
IsAnsweredBy s session k ws w a by_term = ⊥
IsAnsweredBy s session k ws w a by_move = ⊥
IsAnsweredBy s session k ws w a by_end = ⊥

abbrev pub FrontIsAnswered : State → ℕ → ℕ → List Watch → Waiting → Option Answer → Type 0
FrontIsAnswered s session k ws w None = Unit {0}
FrontIsAnswered s session k ws w (Some a) = IsAnsweredBy s session k ws w a a.cause

abbrev pub FrontsAreAnswered : Type 0
FrontsAreAnswered = (s : State) (session k : ℕ) (ws : List Watch) (w : Waiting) → FrontIsAnswered s session k ws w (answer_of s session k ws w)
