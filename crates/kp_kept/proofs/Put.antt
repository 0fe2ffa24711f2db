-- What waits for a node is put into its home.
use Rattle.std.proofs.Common.{◌≡◌, ℕ, ◌≤◌, ◌<◌, ◌^◌, true, false, List, Option, Some, None, Result, Ok, Err, refl, ap, subst, ◌∙◌}
use Rattle.std.specs.Prelude.{OnOk, IsSome, is_some}
use Rattle.kp_io.specs.Crash.{Past, HasRoom}
use Rattle.kp_entry.specs.declared.record.Record.{Record}
use Rattle.kp_entry.specs.Log.{last_index}
use Rattle.kp_snapshot.specs.Snapshots.{Snapshot}
use Rattle.kp_step.specs.Node.{Node}
use Rattle.kp_homes.specs.declared.fail.HomeFail.{HomeFail}
use Rattle.kp_homes.specs.declared.home.Home.{Home}
use Rattle.kp_homes.specs.Opening.{Found, are_fit, blank_start}
use Rattle.kp_homes.specs.Replays.{made_found}
use Rattle.kp_node.specs.Keeping.{held_records}
use Rattle.kp_kept.specs.Ahead.{IsBase, own}
use Rattle.kp_kept.specs.Finding.{Has, LeavesEither, LeavesBatch, HasBatch, LeavesNode, HasNode}
use Rattle.kp_kept.proofs.Waits.{image_kept, own_fit, batch_kept}

module _ (x : Node) (rest : List Record) (all : rest ≡ held_records x.boot x.held) (low : last_index x.held.log ≤ 2 ^ 62) where
  image_fits : (i : Snapshot) → IsBase i x → are_fit (blank_start (Some i)).held rest ≡ true
  image_fits i b = ap (are_fit (blank_start (Some i)).held) all ∙ own_fit i x b low

  image_is : (i : Snapshot) → IsBase i x → made_found (Some i) rest ≡ own (Some i) x
  image_is i b = ap (made_found (Some i)) all ∙ image_kept i x b

  module _ {H : Type 0} (held : H → Option (List ℕ)) (past : H → Option Past) (old new : Home H) where
    pub image_left : (image : Option Snapshot) → IsSome image
        → ((f : Found) → Has held past old f → HasRoom new.disks.moments → old.journal.head.generation < 2 ^ 62 → are_fit (blank_start image).held rest ≡ true → LeavesEither held past old new f (made_found image rest))
        → (rs : List Record) → LeavesNode held past old new image rs x
    image_left None some crash rs = absurd (cc some)
    image_left (Some i) some crash rs = λ f had room below base. subst (λ (g : Found). LeavesEither held past old new f g) (image_is i base) (crash f had room below (image_fits i base))

    pub image_had : {A : Type 0} (image : Option Snapshot) (r : Result A HomeFail) → IsSome image
        → ((f : Found) → Has held past old f → HasRoom new.disks.moments → old.journal.head.generation < 2 ^ 62 → are_fit (blank_start image).held rest ≡ true → OnOk r (Has held past new (made_found image rest)))
        → (rs : List Record) → OnOk r (HasNode held past old new image rs x)
    image_had None r some keeps rs = absurd (cc some)
    image_had (Some i) (Ok y) some keeps rs = λ f had room below base. subst (λ (g : Found). Has held past new g) (image_is i base) (keeps f had room below (image_fits i base))
    image_had (Some i) (Err e) some keeps rs = tt

module _ {H : Type 0} (held : H → Option (List ℕ)) (past : H → Option Past) (old new : Home H) (x : Node) where
  pub batch_left : (image : Option Snapshot) (rs : List Record) → image ≡ None → LeavesBatch held past old new rs → LeavesNode held past old new image rs x
  batch_left None rs none crash = λ f had room below leads. subst (λ (g : Found). LeavesEither held past old new f g) (batch_kept rs f x leads.1) (crash f had room leads.0)
  batch_left (Some i) rs none crash = absurd (cc none)

  pub batch_has : {A : Type 0} (image : Option Snapshot) (rs : List Record) (r : Result A HomeFail) → image ≡ None → OnOk r (HasBatch held past old new rs) → OnOk r (HasNode held past old new image rs x)
  batch_has None rs (Ok y) none keeps = λ f had room below leads. subst (λ (g : Found). Has held past new g) (batch_kept rs f x leads.1) (keeps f had room leads.0)
  batch_has None rs (Err e) none keeps = tt
  batch_has (Some i) rs r none keeps = absurd (cc none)

pub none_is : (image : Option Snapshot) → is_some image ≡ false → image ≡ None
none_is None e = refl
none_is (Some i) e = absurd (cc e)
