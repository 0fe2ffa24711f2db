-- What an entry is found to do, and what that makes of the parts of a state.
use Rattle.std.specs.Prelude.{◌≡◌, ℕ, ◌+◌, [], Option, Some, None}
use Rattle.std.specs.List.{All}
use Rattle.kp_layers.specs.Overlay.{put}
use Rattle.kp_model.specs.declared.session.Session.{Session}
use Rattle.kp_model.specs.declared.reply.Reply.{Reply}
use Rattle.kp_model.specs.declared.reply.Reply.TheVariants as reply
use Rattle.kp_model.specs.State.{State, Sessions}
use Rattle.kp_model.specs.Step.{Outcome}
use Rattle.kp_model.specs.Touched.{Touched}
use Rattle.kp_cells.specs.Parts.{Parts, parts_of}
use Rattle.kp_act.specs.declared.plan.Plan.{Plan}
use Rattle.kp_act.specs.Effects.{IsFit, FitsData}
use Rattle.kp_act.specs.Several.{effected_by, effected_nodes_by, TellOwners}
use Rattle.kp_act.specs.Among.{IsEffectAmong, IsSessionAmong}

-- the sessions with one set, or without it
abbrev pub settled : Sessions → Option (ℕ × Option Session) → Sessions
settled sessions None = sessions
settled sessions (Some x) = put sessions x.0 x.1

abbrev pub next_after : ℕ → Option ℕ → ℕ
next_after n None = n
next_after n (Some m) = m

-- the parts after all that a plan does
abbrev pub planned : Parts → Plan → Parts
planned p plan = effected_by (record p { sessions = settled p.sessions plan.session; next = next_after p.next plan.next }) plan.effects

-- an answer, and nothing that is done
abbrev pub answer_plan : Reply → Plan
answer_plan r = record { prepared = record { reply = r; events = [] }; session = None; next = None; effects = [] }

-- a session is opened under this number
abbrev pub opening_plan : ℕ → Session → Plan
opening_plan id x = record { prepared = record { reply = reply.Session id; events = [] }; session = Some (id, Some x); next = Some (id + 1); effects = [] }

-- a session is set, and this is answered
abbrev pub session_plan : ℕ → Session → Reply → Plan
session_plan id x r = record { prepared = record { reply = r; events = [] }; session = Some (id, Some x); next = None; effects = [] }

-- the plan is what an entry does that leads from a state to this outcome and touches only these keys
pub record IsPlan (t : Touched) (s : State) (o : Outcome) (p : Plan) : Type 0 where
  pub reply : p.prepared.reply ≡ o.reply
  pub events : p.prepared.events ≡ o.events
  pub parts : planned (parts_of s) p ≡ parts_of o.state
  pub nodes : effected_nodes_by s.nodes p.effects ≡ o.state.nodes
  pub owners : TellOwners (parts_of s) p.effects
  pub fit : All IsFit p.effects
  pub fits : All FitsData p.effects
  pub paths : All (IsEffectAmong t.paths) p.effects
  pub sessions : IsSessionAmong t.sessions p.session
