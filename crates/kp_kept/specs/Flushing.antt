-- What a flush does to a node with its home.
use Rattle.std.specs.Prelude.{◌≡◌, ℕ, ◌<◌, ◌^◌, Some, None, Result, Ok, Err}
use Rattle.kp_io.specs.Faults.{Rose}
use Rattle.kp_io.specs.Homes.{home_faults}
use Rattle.kp_io.specs.declared.disk.Disk.{Ghosts}
use Rattle.kp_event.specs.declared.fail.KeptFail.{KeptFail}
use Rattle.kp_event.specs.declared.fail.KeptFail.TheVariants as fail
use Rattle.kp_event.specs.declared.fail.Why.TheVariants as why
use Rattle.kp_kept.specs.declared.kept.Kept.{Kept}

-- the count of the faults of its home
abbrev pub faults_of : {H : Type 0} {G : Ghosts H} → (H → ℕ) → Kept H G → ℕ
faults_of faults k = home_faults faults k.home.disks

-- the node stays, and so does the number up to which it is kept
pub record NodeStays {H : Type 0} {G : Ghosts H} (x y : Kept H G) : Type 0 where
  pub node : y.node ≡ x.node
  pub kept : y.kept ≡ x.kept

module _ {H : Type 0} {G : Ghosts H} (faults : Kept H G → ℕ) where
  -- what a node that isn't dead becomes where what waits is put into its home
  abbrev pub PutBy : Kept H G → Result (Unit {0}) KeptFail → Kept H G → Type 0
  PutBy x (Ok u) y = (y.death ≡ None) × (faults y ≡ faults x)
  PutBy x (Err fail.NoMemory) y = (y.death ≡ None) × (y.home ≡ x.home)
  PutBy x (Err fail.DiskFault) y = (y.death ≡ Some (why.Disk (faults y))) × Rose (faults x) (faults y)
  PutBy x (Err (fail.Full slot len)) y = (y.death ≡ Some (why.Full slot len)) × (y.home ≡ x.home) × (2 ^ 40 < len)
  PutBy x (Err (fail.Dead w)) y = ⊥

  abbrev pub IsPut : Kept H G → Result (Unit {0}) KeptFail → Kept H G → Type 0
  IsPut x r y = NodeStays x y × PutBy x r y

  -- a flush keeps all that was thought and leaves the node; or it ends the node, or it changes nothing
  abbrev pub Flushes : Kept H G → Result ℕ KeptFail → Kept H G → Type 0
  Flushes x (Ok n) y = (x.death ≡ None) × (y.node ≡ x.node) × (n ≡ x.node.events) × (y.kept ≡ n) × PutBy x (Ok tt) y
  Flushes x (Err fail.NoMemory) y = (x.death ≡ None) × NodeStays x y × PutBy x (Err fail.NoMemory) y
  Flushes x (Err fail.DiskFault) y = (x.death ≡ None) × NodeStays x y × PutBy x (Err fail.DiskFault) y
  Flushes x (Err (fail.Full slot len)) y = (x.death ≡ None) × NodeStays x y × PutBy x (Err (fail.Full slot len)) y
  Flushes x (Err (fail.Dead w)) y = (x.death ≡ Some w) × (y ≡ x)
