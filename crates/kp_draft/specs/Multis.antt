-- The operations of a multi, one after the other, and what they came to.
use Rattle.std.specs.Prelude.{◌≡◌, ℕ, ℤ, ◌+◌, ◌-◌, List, [], ◌∷◌, ◌++◌, length, Option, Some, None}
use Rattle.std.specs.List.{All}
use Rattle.kp_model.specs.declared.command.Op.{Op}
use Rattle.kp_model.specs.declared.reply.Event.{Event}
use Rattle.kp_model.specs.declared.reply.OpReply.{OpReply}
use Rattle.kp_model.specs.declared.reply.Reply.TheVariants as reply
use Rattle.kp_model.specs.declared.session.Session.{Session}
use Rattle.kp_model.specs.State.{State, Nodes}
use Rattle.kp_model.specs.Step.{Outcome, replies, error_of, op_reply, failure, multi}
use Rattle.kp_model.specs.Touched.{with_parents, paths_of_ops}
use Rattle.kp_cells.specs.Parts.{parts_of}
use Rattle.kp_act.specs.declared.plan.Act.{Act}
use Rattle.kp_act.specs.declared.plan.Effect.{Effect}
use Rattle.kp_act.specs.declared.plan.Plan.{Plan}
use Rattle.kp_act.specs.Effects.{IsFit, FitsData, DoesOn}
use Rattle.kp_act.specs.Looks.{HavePlaces}
use Rattle.kp_act.specs.Plans.{session_plan}
use Rattle.kp_act.specs.Several.{effected_by, effected_nodes_by, TellOwners}
use Rattle.kp_act.specs.Among.{IsEffectAmong}

-- the operations before the rest of a multi are done: they had these effects, answers and events
pub record IsRun (s : State) (session : ℕ) (ids : List (List ℕ)) (i t : ℕ) (ops rest : List Op) (es : List Effect) (answers : List OpReply) (events : List Event) : Type 0 where
  pub state : State
  pub done : List (List ℕ)
  pub leads : multi s s session ids i t [] [] ops ≡ multi s state session ids i t answers events rest
  pub named : paths_of_ops s session ids i t ops ≡ done ++ paths_of_ops state session ids i t rest
  pub count : length answers + length rest ≡ length ops
  pub nodes : effected_nodes_by s.nodes es ≡ state.nodes
  pub parts : effected_by (parts_of s) es ≡ parts_of state
  pub owners : TellOwners (parts_of s) es
  pub fit : All IsFit es
  pub fits : All FitsData es
  pub paths : All (IsEffectAmong (with_parents (paths_of_ops s session ids i t ops))) es
  pub places : HavePlaces s.nodes → HavePlaces state.nodes

-- an act is added to what was done before it; where it is an error, nothing is
abbrev pub Adds : Act → List Effect → List Effect → List OpReply → List OpReply → List Event → List Event → Option ℤ → Type 0
Adds a es new_es answers new_answers events new_events None = (new_es ≡ es ++ a.effect ∷ []) × (new_answers ≡ answers ++ op_reply a.prepared.reply ∷ []) × (new_events ≡ events ++ a.prepared.events)
Adds a es new_es answers new_answers events new_events (Some code) = new_answers ≡ answers

-- an operation on these nodes is done, or else its error is told
pub record IsStep (path : List ℕ) (nodes : Nodes) (does : State → Outcome) (es new_es : List Effect) (answers new_answers : List OpReply) (events new_events : List Event) (o : Option ℤ) : Type 0 where
  pub act : Act
  pub acts : DoesOn path nodes does act
  pub error : error_of act.prepared.reply ≡ o
  pub adds : Adds act es new_es answers new_answers events new_events o

-- a multi on these nodes came to its end, or to the error of an operation, which is told
abbrev pub IsEnd : Nodes → ℕ → List (List ℕ) → ℕ → ℕ → List Op → List Effect → List OpReply → List Event → Option ℤ → Type 0
IsEnd nodes session ids i t ops es answers events None = (s : State) → IsRun (record s { nodes = nodes }) session ids i t ops [] es answers events
IsEnd nodes session ids i t ops es answers events (Some code) = (s : State) → let z = record s { nodes = nodes } in multi z z session ids i t [] [] ops ≡ replies z (failure (length answers) code ((length ops - length answers) - 1))

-- what a multi does that came to its end: all effects and answers, or nothing where an operation failed; the session is set
abbrev pub multi_plan : ℕ → Session → ℕ → Option ℤ → List Effect → List OpReply → List Event → Plan
multi_plan id x count None es answers events = record { prepared = record { reply = reply.Multi answers; events = events }; session = Some (id, Some x); next = None; effects = es }
multi_plan id x count (Some code) es answers events = session_plan id x (failure (length answers) code ((count - length answers) - 1))
