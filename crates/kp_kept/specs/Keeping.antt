-- A node with its home, and what its calls make of it.
use Rattle.std.specs.Prelude.{◌≡◌, ℕ, List, Option}
use Rattle.kp_io.specs.Crash.{Past}
use Rattle.kp_io.specs.declared.disk.Disk.{Ghosts}
use Rattle.kp_homes.specs.Opening.{Found}
use Rattle.kp_homes.specs.Homes as homes
use Rattle.kp_node.specs.Parts.{node_of}
use Rattle.kp_kept.specs.declared.kept.Kept.{Kept}
use Rattle.kp_kept.specs.Ahead.{Waiting, all_records, IsAhead, found_then}

-- what waits to be kept
abbrev pub waiting_of : {H : Type 0} {G : Ghosts H} → Kept H G → Waiting
waiting_of k = record { image = k.image; records = all_records k.waiting.items }

-- opening finds this on the home, and what waits leads from it to what the node keeps over a stop
pub record KeepsUp {H : Type 0} {G : Ghosts H} (held : H → Option (List ℕ)) (past : H → Option Past) (k : Kept H G) (f : Found) : Type 0 where
  pub keeps : homes.Keeps held past k.home.disks k.home.second k.home.journal f
  pub ahead : IsAhead (waiting_of k) f (node_of k.node)

-- what opening finds once all that waits is kept
abbrev pub found_behind : {H : Type 0} {G : Ghosts H} → Kept H G → Found → Found
found_behind k f = found_then (waiting_of k) f (node_of k.node)

-- nothing but what waits changed
pub record OnlyWaits {H : Type 0} {G : Ghosts H} (x y : Kept H G) : Type 0 where
  pub node : y.node ≡ x.node
  pub home : y.home ≡ x.home
  pub death : y.death ≡ x.death
  pub kept : y.kept ≡ x.kept
