-- What a disk holds after its calls is something that a crash may leave.
use Rattle.std.proofs.Common.{◌≡◌, ⊎_elim, ℕ, List, Option, Some, None, Result, Ok, Err, refl, sym, subst}
use Rattle.std.specs.Prelude.{OnOk, OnErr}
use Rattle.std.specs.Option.{option_map}
use Rattle.kp_io.specs.Crash.{Past, IsLeft, IsNotedOrNot, synced, unsynced}
use Rattle.kp_io.proofs.Wears.{settled_left}

none_held : (o : Option Past) → IsLeft o None
none_held None = tt
none_held (Some p) = tt

synced_left : (m : ℕ) (xs : List ℕ) (o : Option Past) → IsLeft (option_map (synced m xs) o) (Some xs)
synced_left m xs None = tt
synced_left m xs (Some p) = settled_left xs

unsynced_left : (m : ℕ) (o : Option Past) (held : Option (List ℕ)) → IsLeft o held → IsLeft (option_map (unsynced m) o) held
unsynced_left m None held left = tt
unsynced_left m (Some p) None left = tt
unsynced_left m (Some p) (Some xs) left = left

-- after a sync, whatever it answered
pub sync_left : {T E : Type 0} (r : Result T E) (m : ℕ) (held held' : Option (List ℕ)) (old new : Option Past) → OnOk r (held' ≡ held) → ((xs : List ℕ) → held ≡ Some xs → OnOk r (new ≡ option_map (synced m xs) old))
    → OnErr r (IsNotedOrNot (unsynced m) old new) → IsLeft old held' → IsLeft new held'
sync_left (Ok x) m None held' old new keeps past err was = subst (λ (h : Option (List ℕ)). IsLeft new h) (sym keeps) (none_held new)
sync_left (Ok x) m (Some xs) held' old new keeps past err was =
    subst (λ (h : Option (List ℕ)). IsLeft new h) (sym keeps) (subst (λ (o : Option Past). IsLeft o (Some xs)) (sym (past xs refl)) (synced_left m xs old))
sync_left (Err e) m held held' old new keeps past err was =
    ⊎_elim (λ noted. subst (λ (o : Option Past). IsLeft o held') (sym noted) (unsynced_left m old held' was)) (λ same. subst (λ (o : Option Past). IsLeft o held') (sym same) was) err
