-- What a state and an answer stand for together.
use Rattle.std.specs.Prelude.{ℕ, Bool, List, Option, Some, None}
use Rattle.std.specs.FinMap as map
use Rattle.kp_model.specs.declared.session.Session.{Session}
use Rattle.kp_model.specs.declared.session.Origin.{Origin}
use Rattle.kp_model.specs.Poured.{node_of}
use Rattle.kp_model.specs.State.{State, Nodes, same_origin}
use Rattle.kp_cells.specs.declared.change.NodeValue.{NodeValue}
use Rattle.kp_model.specs.Step.{Outcome}
use Rattle.kp_act.specs.declared.plan.Prepared.{Prepared}

-- the state that an entry leaves, with its reply and its events
abbrev pub outcome : State → Prepared → Outcome
outcome s a = record { state = s; reply = a.reply; events = a.events }

-- whether a session, with its number, is held by this origin
abbrev pub has_holder : Origin → ℕ × Session → Bool
has_holder origin x = same_origin x.1.holder origin

-- the nodes with the one of a path set, or without it
abbrev pub nodes_set : Nodes → List ℕ → Option NodeValue → Nodes
nodes_set nodes p None = map.remove nodes p
nodes_set nodes p (Some v) = map.insert nodes p (node_of v.bytes v.acl v.meta)
