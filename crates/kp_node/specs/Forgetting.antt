-- When sessions were heard, behind an entry: one that is opened or taken over is heard, and one that ended is forgotten.
use Rattle.std.specs.Prelude.{◌≡◌, ℕ, Bool, true, false, Option, Some, None}
use Rattle.std.specs.Ordering.{nat_cmp}
use Rattle.std.specs.FinMap as map
use Rattle.std.specs.FinMap.{FinMap}
use Rattle.kp_model.specs.declared.command.Cmd.{Cmd}
use Rattle.kp_model.specs.declared.command.Cmd.TheVariants as cmd
use Rattle.kp_model.specs.declared.entry.Body.{Body}
use Rattle.kp_model.specs.declared.entry.Body.TheVariants as body
use Rattle.kp_model.specs.declared.reply.Reply.{Reply}
use Rattle.kp_model.specs.declared.reply.Reply.TheVariants as reply
use Rattle.kp_model.specs.State.{State}
use Rattle.kp_expiry.specs.declared.heard.Heard.{Heard}
use Rattle.kp_step.specs.Committing.{heard_behind}
use Rattle.kp_node.specs.declared.welcoming.Welcome.{Welcome}
use Rattle.kp_node.specs.Welcoming.{asks_session}

-- when the session was heard before
abbrev pub heard_before : Option Welcome → FinMap nat_cmp Heard → Option Heard
heard_before None m = None
heard_before (Some w) m = map.get m w.id

-- the session that an entry with this reply ends
abbrev pub closes : ℕ → Cmd → Option ℕ
closes session cmd.CloseSession = Some session
closes session c = None

abbrev pub ended_by : Body → Reply → Option ℕ
ended_by (body.Expire session) reply.Done = Some session
ended_by (body.Write session epoch seq c) reply.Done = closes session c
ended_by b r = None

-- without it
abbrev pub forgotten : Option ℕ → FinMap nat_cmp Heard → FinMap nat_cmp Heard
forgotten None m = m
forgotten (Some session) m = map.remove m session

-- the number of a new session
abbrev pub opens : Reply → Bool
opens (reply.Session id) = true
opens r = false

-- behind an entry that opens no session and takes none over, the one that it ended is forgotten
abbrev pub EndIsForgotten : Type 0
EndIsForgotten = (now : ℕ) (b : Body) (r : Reply) (s : State) (m : FinMap nat_cmp Heard) → asks_session b ≡ false → opens r ≡ false → heard_behind now b r s m ≡ forgotten (ended_by b r) m
