-- The parts of an image put into a state, one after the other.
use Rattle.std.specs.Prelude.{◌≡◌, List, [], ◌∷◌, Result, Ok, Err}
use Rattle.kp_model.specs.State.{State}
use Rattle.kp_model.specs.Poured.{started, with_session, with_node}
use Rattle.kp_jute.specs.declared.fault.JuteFail.{JuteFail}
use Rattle.kp_jute.specs.Form.{Place}
use Rattle.kp_snapshot.specs.Rules.{Numbered, Placed}
use Rattle.kp_snapshot.specs.Images.{Parts}

abbrev pub with_sessions : State → List Numbered → State
with_sessions s [] = s
with_sessions s (x ∷ xs) = with_sessions (with_session s x.0 x.1) xs

abbrev pub with_nodes : State → List Placed → State
with_nodes s [] = s
with_nodes s (x ∷ xs) = with_nodes (with_node s x.0 x.1) xs

abbrev pub with_tables : State → List Numbered × List Placed → State
with_tables s t = with_nodes (with_sessions s t.0) t.1

-- the numbers first; the mark and the term are no part of a state
abbrev pub with_parts : State → Parts → State
with_parts s t = with_tables (started s t.1.0 t.1.1.1.0) t.1.1.1.1

-- what was handed over is what the reading gives; nothing is said of a refusal
abbrev pub Gets : {X Y : Type 0} → (X → Y → Type 0) → Result X JuteFail → Place → Result (Y × Place) JuteFail → Type 0
Gets {X} {Y} fits (Ok x) new read = (y : Y) × (read ≡ Ok (y, new)) × fits x y
Gets fits (Err e) new read = Unit {0}
