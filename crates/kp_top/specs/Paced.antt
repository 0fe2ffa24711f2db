-- Numbers that rise by one entry at a time stay small.
use Rattle.std.specs.Prelude.{◌≡◌, ◌≤◌, ℕ, Some}
use Rattle.std.specs.FinMap as map
use Rattle.kp_model.specs.declared.session.Session.{Session}
use Rattle.kp_model.specs.State.{State}

-- no session has an epoch or a running number above the applied index
abbrev pub IsPaced : State → Type 0
IsPaced s = (id : ℕ) (x : Session) → map.get s.sessions id ≡ Some x → (x.epoch ≤ s.applied) × (x.seq ≤ s.applied)
