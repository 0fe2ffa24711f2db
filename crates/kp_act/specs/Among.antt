-- The paths and the sessions that may be written at.
use Rattle.std.specs.Prelude.{ℕ, Bool, ◌==◌, List, Option, Some, None, IsTrue}
use Rattle.std.specs.List.{list_any}
use Rattle.std.specs.Str.{bytes_eq}
use Rattle.kp_model.specs.declared.session.Session.{Session}
use Rattle.kp_model.specs.Path.{parent}
use Rattle.kp_act.specs.declared.plan.Effect.{Effect}
use Rattle.kp_act.specs.declared.plan.Effect.TheVariants as effect

-- whether the path is one of these
abbrev pub is_among : List (List ℕ) → List ℕ → Bool
is_among ps p = list_any (bytes_eq p) ps

-- whether the session is one of these
abbrev pub is_one_of : List ℕ → ℕ → Bool
is_one_of ids id = list_any (λ n. n == id) ids

-- a path and its parent are among these
abbrev pub IsFamilyAmong : List (List ℕ) → List ℕ → Type 0
IsFamilyAmong ps path = IsTrue (is_among ps path) × IsTrue (is_among ps (parent path))

-- an effect changes nodes at these paths alone
abbrev pub IsEffectAmong : List (List ℕ) → Effect → Type 0
IsEffectAmong ps effect.Nothing = Unit {0}
IsEffectAmong ps (effect.Make path bytes acl meta up) = IsFamilyAmong ps path
IsEffectAmong ps (effect.Remove path up owner) = IsFamilyAmong ps path
IsEffectAmong ps (effect.Set path bytes meta) = IsTrue (is_among ps path)
IsEffectAmong ps (effect.SetAcl path acl meta) = IsTrue (is_among ps path)

-- a session that is set or goes is one of these
abbrev pub IsSessionAmong : List ℕ → Option (ℕ × Option Session) → Type 0
IsSessionAmong ids None = Unit {0}
IsSessionAmong ids (Some x) = IsTrue (is_one_of ids x.0)
