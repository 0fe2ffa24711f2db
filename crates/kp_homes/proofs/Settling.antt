-- The syncs of an opening.
use Rattle.std.proofs.Common.{◌≡◌, ⊎_elim, ℕ, ◌+◌, ◌≤◌, ◌<◌, List, Option, Some, Result, Ok, Err, refl, sym, ◌∙◌, ap, subst, arith}
use Rattle.std.specs.Prelude.{OnOk, OnErr}
use Rattle.std.specs.Option.{option_map}
use Rattle.kp_io.specs.Crash.{Past, MayLeave, LeftAt, AreUpTo, Leaves, IsSettled, IsLeft, IsNotedOrNot, HasRoom, settled, synced, unsynced}
use Rattle.kp_io.specs.Faults.{one_more}
use Rattle.kp_io.proofs.Leaving.{up_to_more, wear_now, start, goes_on}
use Rattle.kp_io.proofs.Behind.{stepped}
use Rattle.kp_io.proofs.Wears.{settled_kept}
use Rattle.kp_homes.specs.Stands.{LeftIf, IsRest}
use Rattle.kp_homes.specs.Opening.{IsTold, LeftNowIf}

-- nothing was called
still : (m mo : ℕ) (p : Past) → AreUpTo m p.notes → m ≤ mo → Leaves m mo (λ c. MayLeave p.now c) p p
still m mo p all le = let s = start m (λ c. MayLeave p.now c) p all (λ c left. left) in record { later = le; since = s.since; before = s.before; up_to = up_to_more m mo p.notes le all }

told_now : (m n : ℕ) (p : Past) (c : List ℕ) → AreUpTo m p.notes → m < n → LeftAt p n c → MayLeave p.now c
told_now m n p c all lt left = subst (λ w. MayLeave w c) (wear_now m n p.now p.notes all lt) left

synced_now : (m mo m' n : ℕ) (xs c : List ℕ) (p : Past) (new : Option Past) → AreUpTo m p.notes → m ≤ mo → m' ≡ mo + 1 → m < n → MayLeave p.now xs → new ≡ Some (synced m' xs p) → LeftIf new n c → MayLeave p.now c
synced_now m mo m' n xs c p new all le is lt here was left =
    let run = goes_on m mo (λ d. MayLeave p.now d) p p p.now (settled xs) (still m mo p all le) (λ d l. l) (λ d l. subst (λ e. MayLeave p.now e) (sym (settled_kept xs d l)) here) in
    run.since n c lt (subst (λ (k : ℕ). LeftAt (synced k xs p) n c) is (subst (λ (o : Option Past). LeftIf o n c) was left))

unsynced_now : (m mo m' n : ℕ) (c : List ℕ) (p : Past) (new : Option Past) → AreUpTo m p.notes → m ≤ mo → m' ≡ mo + 1 → m < n → IsNotedOrNot (unsynced m') (Some p) new → LeftIf new n c → MayLeave p.now c
unsynced_now m mo m' n c p new all le is lt was left =
    ⊎_elim (λ noted.
    let run = goes_on m mo (λ d. MayLeave p.now d) p p p.now p.now (still m mo p all le) (λ d l. l) (λ d l. l) in
    run.since n c lt (subst (λ (k : ℕ). LeftAt (unsynced k p) n c) is (subst (λ (o : Option Past). LeftIf o n c) noted left)))
    (λ same. told_now m n p c all lt (subst (λ (o : Option Past). LeftIf o n c) same left)) was

is_left : (p : Past) (xs : List ℕ) (old : Option Past) (held : Option (List ℕ)) → old ≡ Some p → held ≡ Some xs → IsLeft old held → MayLeave p.now xs
is_left p xs old held tells holds left = subst (λ (h : Option (List ℕ)). IsLeft (Some p) h) holds (subst (λ (o : Option Past). IsLeft o held) tells left)

now_if : (p : Past) (c : List ℕ) (old : Option Past) → old ≡ Some p → MayLeave p.now c → LeftNowIf old c
now_if p c old tells left = subst (λ (o : Option Past). LeftNowIf o c) (sym tells) left

-- a sync leaves what a crash before it could leave
pub settle_left : {T E : Type 0} (r : Result T E) (m mo m' n : ℕ) (xs c : List ℕ) (held held' : Option (List ℕ)) (old new : Option Past) → OnOk r (held' ≡ held) → OnOk r (new ≡ option_map (synced m' xs) old) → OnErr r (IsNotedOrNot (unsynced m') old new)
    → IsLeft old held' → m' ≡ one_more mo → IsTold m xs held old → m ≤ mo → HasRoom m' → m < n → LeftIf new n c → LeftNowIf old c
settle_left (Ok x) m mo m' n xs c held held' old new keeps past err was is t le room lt left =
    now_if t.told c old t.tells
    (synced_now m mo m' n xs c t.told new t.up_to le (stepped mo m' is room) lt (is_left t.told xs old held' t.tells (keeps ∙ t.holds) was) (past ∙ ap (option_map (synced m' xs)) t.tells) left)
settle_left (Err e) m mo m' n xs c held held' old new keeps past err was is t le room lt left =
    now_if t.told c old t.tells
    (unsynced_now m mo m' n c t.told new t.up_to le (stepped mo m' is room) lt (subst (λ (o : Option Past). IsNotedOrNot (unsynced m') o new) t.tells err) left)

pub settle_rest : {T E : Type 0} (r : Result T E) (m mo m' : ℕ) (xs : List ℕ) (held held' : Option (List ℕ)) (old new : Option Past) → OnOk r (held' ≡ held) → OnOk r (new ≡ option_map (synced m' xs) old)
    → m' ≡ one_more mo → IsTold m xs held old → m ≤ mo → HasRoom m' → OnOk r (IsRest m' xs held' new)
settle_rest (Ok x) m mo m' xs held held' old new keeps past is t le room =
    let tells : new ≡ Some (synced m' xs t.told) = past ∙ ap (option_map (synced m' xs)) t.tells in
    let later : m ≤ m' = omega (arith, le, stepped mo m' is room) in
    record {
      holds = keeps ∙ t.holds;
      told = synced m' xs t.told;
      tells = tells;
      rests = subst (λ (o : Option Past). IsSettled m' xs o) (sym tells) (refl, (omega arith, up_to_more m m' t.told.notes later t.up_to));
    }
settle_rest (Err e) m mo m' xs held held' old new keeps past is t le room = tt

-- a disk that is not called
pub told_left : (m n : ℕ) (xs c : List ℕ) (held : Option (List ℕ)) (o : Option Past) → IsTold m xs held o → m < n → LeftIf o n c → LeftNowIf o c
told_left m n xs c held o t lt left = now_if t.told c o t.tells (told_now m n t.told c t.up_to lt (subst (λ (q : Option Past). LeftIf q n c) t.tells left))
