-- A layer stays open where a session comes to own a path or gives it up.
use Rattle.std.proofs.Common.{◌≡◌, ℕ, Bool, true, false, List, Some, None, sym, subst}
use Rattle.std.specs.Prelude.{◌==◌, if◌then◌else◌}
use Rattle.std.specs.Option.{option_map_or}
use Rattle.std.specs.FinMap as map
use Rattle.kp_layers.specs.Layering.{latest_of}
use Rattle.kp_cells.specs.Overlays.{Overlays, IsOpen, with_owner, with_owned}

pub owned_open : (old new : Overlays) (path : List ℕ) (id : ℕ) (there : Bool) → new ≡ with_owned old path id there → IsOpen old → IsOpen new
unfolding with_owned
owned_open old new path id there e was = subst IsOpen (sym e) (cases there (option_map_or (λ n. n == id) (map.get (latest_of old.owners) path) false)) where
  cases : (b t : Bool) → IsOpen (if b then with_owner old path (Some id) else (if t then with_owner old path None else old))
  cases true t = was
  cases false true = was
  cases false false = was
