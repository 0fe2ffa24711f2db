-- A home behind a torn event.
use Rattle.std.proofs.Common.{◌≡◌, ℕ, List, Option, Some, None, Result, Ok, Err}
use Rattle.std.specs.Prelude.{OnOk, IsSome}
use Rattle.kp_io.specs.Crash.{Past}
use Rattle.kp_entry.specs.declared.record.Record.{Record}
use Rattle.kp_snapshot.specs.Snapshots.{Snapshot}
use Rattle.kp_step.specs.Node.{Node}
use Rattle.kp_homes.specs.declared.fail.HomeFail.{HomeFail}
use Rattle.kp_homes.specs.declared.home.Home.{Home}
use Rattle.kp_kept.specs.Finding.{LeavesBatch, HasBatch, LeavesNode, HasNode}
use Rattle.kp_kept.specs.Tearing.{LeavesPart, HasPart}

module _ {H : Type 0} (held : H → Option (List ℕ)) (past : H → Option Past) (old new : Home H) (rs : List Record) (x : Node) where
  pub image_leaves : (image : Option Snapshot) → IsSome image → LeavesNode held past old new image rs x → LeavesPart held past old new image rs x
  image_leaves None some crash = absurd (cc some)
  image_leaves (Some i) some crash = crash

  pub image_has : {A : Type 0} (image : Option Snapshot) (r : Result A HomeFail) → IsSome image → OnOk r (HasNode held past old new image rs x) → OnOk r (HasPart held past old new image rs x)
  image_has None r some keeps = absurd (cc some)
  image_has (Some i) (Ok y) some keeps = keeps
  image_has (Some i) (Err e) some keeps = tt

  pub batch_leaves : (image : Option Snapshot) → image ≡ None → LeavesBatch held past old new rs → LeavesPart held past old new image rs x
  batch_leaves None none crash = λ f had room below fits. crash f had room fits
  batch_leaves (Some i) none crash = absurd (cc none)

  pub batch_keeps : {A : Type 0} (image : Option Snapshot) (r : Result A HomeFail) → image ≡ None → OnOk r (HasBatch held past old new rs) → OnOk r (HasPart held past old new image rs x)
  batch_keeps None (Ok y) none keeps = λ f had room below fits. keeps f had room fits
  batch_keeps None (Err e) none keeps = tt
  batch_keeps (Some i) r none keeps = absurd (cc none)
