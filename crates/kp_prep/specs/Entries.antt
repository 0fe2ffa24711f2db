-- What a write does whose command acts on one node.
use Rattle.std.specs.Prelude.{ℕ, [], ◌∷◌, Some, None}
use Rattle.kp_model.specs.declared.session.Session.{Session}
use Rattle.kp_act.specs.declared.plan.Act.{Act}
use Rattle.kp_act.specs.declared.plan.Plan.{Plan}

-- a session is set, and its command acts
abbrev pub acting_plan : ℕ → Session → Act → Plan
acting_plan id x a = record { prepared = a.prepared; session = Some (id, Some x); next = None; effects = a.effect ∷ [] }
