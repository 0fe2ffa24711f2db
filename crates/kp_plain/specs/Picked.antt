-- Which paths are listed.
use Rattle.std.specs.Prelude.{ℕ, Bool, true, List}
use Rattle.kp_model.specs.State.{Nodes, is_child, is_owned}
use Rattle.kp_plain.specs.declared.pick.Pick.{Pick}
use Rattle.kp_plain.specs.declared.pick.Pick.TheVariants as pick

abbrev pub picks : Nodes → Pick → List ℕ → Bool
picks nodes pick.Every q = true
picks nodes (pick.ChildOf up) q = is_child up q
picks nodes (pick.OwnedBy id) q = is_owned nodes id q
