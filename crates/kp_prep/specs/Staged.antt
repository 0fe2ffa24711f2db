-- The writes of an effect, a session, a session number and a plan in the open layer.
use Rattle.std.specs.Prelude.{ℕ, true, false, ◌==◌, List, Option, Some, None, if◌then◌else◌, [], ◌∷◌}
use Rattle.kp_model.specs.declared.session.Session.{Session}
use Rattle.kp_model.specs.Path.{parent}
use Rattle.kp_cells.specs.Overlays.{Overlays, with_meta, with_content, with_acl, with_child, with_owned, with_session, with_next}
use Rattle.kp_act.specs.declared.plan.Effect.{Effect}
use Rattle.kp_act.specs.declared.plan.Effect.TheVariants as effect
use Rattle.kp_act.specs.declared.plan.Plan.{Plan}

-- the node's session gives it up, where it has one
abbrev pub given_up : Overlays → ℕ → List ℕ → Overlays
given_up o owner path = if owner == 0 then o else with_owned o path owner false

-- the node's session owns it, where it has one
abbrev pub taken_on : Overlays → ℕ → List ℕ → Overlays
taken_on o owner path = if owner == 0 then o else with_owned o path owner true

-- the writes of an effect
abbrev pub staged_effect : Overlays → Effect → Overlays
staged_effect o effect.Nothing = o
staged_effect o (effect.Make path bytes acl meta up) =
    taken_on (with_child (with_acl (with_content (with_meta (with_meta o (parent path) (Some up)) path (Some meta)) path (Some bytes)) path (Some acl)) path true) meta.owner path
staged_effect o (effect.Remove path up owner) =
    given_up (with_child (with_acl (with_content (with_meta (with_meta o (parent path) (Some up)) path None) path None) path None) path false) owner path
staged_effect o (effect.Set path bytes meta) = with_content (with_meta o path (Some meta)) path (Some bytes)
staged_effect o (effect.SetAcl path acl meta) = with_acl (with_meta o path (Some meta)) path (Some acl)

-- the write of a session that is set, or that goes
abbrev pub staged_session : Overlays → Option (ℕ × Option Session) → Overlays
staged_session o None = o
staged_session o (Some x) = with_session o x.0 x.1

-- the write of the next session number
abbrev pub staged_next : Overlays → Option ℕ → Overlays
staged_next o None = o
staged_next o (Some n) = with_next o n

-- the writes of all effects
unfoldable pub staged_effects : Overlays → List Effect → Overlays
staged_effects o [] = o
staged_effects o (e ∷ es) = staged_effects (staged_effect o e) es

-- all writes of a plan
abbrev pub staged_plan : Overlays → Plan → Overlays
staged_plan o p = staged_effects (staged_next (staged_session o p.session) p.next) p.effects
