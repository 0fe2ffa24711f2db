-- Runs of calls that write behind a place.
use Rattle.std.proofs.Common.{◌≡◌, ℕ, ◌+◌, ◌≤◌, ◌<◌, List, ◌++◌, length, get_or, take, take-append-drop, Option, Some, None, refl, sym, ◌∙◌, ap, subst, arith}
use Rattle.std.proofs.lemmas.List.{drop_more}
use Rattle.std.specs.Option.{option_map}
use Rattle.kp_io.specs.Crash.{Wear, Past, MayLeave, Leaves, LeavesIf, IsSettled, HasFront, IsButFor, HasRoom, settled, worn, shortened, noted, wrote, cut_down, synced, unsynced}
use Rattle.kp_io.specs.Faults.{one_more}
use Rattle.kp_io.proofs.Leaving.{start, goes_on, up_to_more, joined, weakened}
use Rattle.kp_io.proofs.Wears.{KeepsFront, front_kept, settled_kept, byte_torn, settled_front, worn_front, shortened_front}

-- the count before a call, where it has room after it
pub stepped : (m m' : ℕ) → m' ≡ one_more m → HasRoom m' → m' ≡ m + 1
stepped m m' is room = omega (arith, is, room)

pub had_room : (m m' : ℕ) → m' ≡ one_more m → HasRoom m' → HasRoom m
had_room m m' is room = omega (arith, is, room)

-- since the count was m0 a crash leaves the first k bytes of these, and what was done since keeps them
pub record Behind (m0 m k : ℕ) (xs : List ℕ) (old new : Past) : Type 0 where
  pub leaves : Leaves m0 m (HasFront k xs) old new
  pub wear : KeepsFront k xs new.now

pub BehindIf : ℕ → ℕ → ℕ → List ℕ → Option Past → Option Past → Type 0
BehindIf m0 m k xs (Some old) (Some new) = Behind m0 m k xs old new
BehindIf m0 m k xs (Some old) None = ⊥
BehindIf m0 m k xs None (Some new) = ⊥
BehindIf m0 m k xs None None = Unit {0}

pub begun : (m k : ℕ) (xs : List ℕ) (o : Option Past) → k ≤ length xs → IsSettled m xs o → BehindIf m m k xs o o
unfolding BehindIf
begun m k xs None le is = tt
begun m k xs (Some p) le is =
    let keeps : KeepsFront k xs p.now = subst (λ w. KeepsFront k xs w) (sym is.0) (settled_front k xs le) in
    record { leaves = start m (HasFront k xs) p is.1 (λ c left. front_kept k xs p.now c keeps left); wear = keeps }

grown : (m0 m k : ℕ) (xs : List ℕ) (old mid : Past) (now : Wear) → Behind m0 m k xs old mid → KeepsFront k xs now → Behind m0 (m + 1) k xs old (noted (m + 1) now now mid)
grown m0 m k xs old mid now so_far keeps = record { leaves = goes_on m0 m (HasFront k xs) old mid now now so_far.leaves (λ c left. front_kept k xs now c keeps left) (λ c left. front_kept k xs now c keeps left); wear = keeps }

pub wrote_behind : (m0 m m' k : ℕ) (xs : List ℕ) (o mid new : Option Past) (at n : ℕ) → BehindIf m0 m k xs o mid → m' ≡ m + 1 → new ≡ option_map (wrote m' at n) mid → k ≤ at → BehindIf m0 m' k xs o new
unfolding BehindIf
wrote_behind m0 m m' k xs None (Some mid) new at n so_far next is le = absurd so_far
wrote_behind m0 m m' k xs None None new at n so_far next is le = subst (λ (q : Option Past). BehindIf m0 m' k xs None q) (sym is) tt
wrote_behind m0 m m' k xs (Some old) None new at n so_far next is le = absurd so_far
wrote_behind m0 m m' k xs (Some old) (Some mid) new at n so_far next is le =
    subst (λ (q : Option Past). BehindIf m0 m' k xs (Some old) q) (sym is)
    (subst (λ (j : ℕ). Behind m0 j k xs old (wrote j at n mid)) (sym next) (grown m0 m k xs old mid (worn at n mid.now) so_far (worn_front k xs mid.now at n le so_far.wear)))

pub cut_behind : (m0 m m' k : ℕ) (xs : List ℕ) (o mid new : Option Past) (n : ℕ) → BehindIf m0 m k xs o mid → m' ≡ m + 1 → new ≡ option_map (cut_down m' n) mid → k ≤ n → BehindIf m0 m' k xs o new
unfolding BehindIf
cut_behind m0 m m' k xs None (Some mid) new n so_far next is le = absurd so_far
cut_behind m0 m m' k xs None None new n so_far next is le = subst (λ (q : Option Past). BehindIf m0 m' k xs None q) (sym is) tt
cut_behind m0 m m' k xs (Some old) None new n so_far next is le = absurd so_far
cut_behind m0 m m' k xs (Some old) (Some mid) new n so_far next is le =
    subst (λ (q : Option Past). BehindIf m0 m' k xs (Some old) q) (sym is)
    (subst (λ (j : ℕ). Behind m0 j k xs old (cut_down j n mid)) (sym next) (grown m0 m k xs old mid (shortened n mid.now) so_far (shortened_front k xs mid.now n le so_far.wear)))

pub unsynced_behind : (m0 m m' k : ℕ) (xs : List ℕ) (o mid new : Option Past) → BehindIf m0 m k xs o mid → m' ≡ m + 1 → new ≡ option_map (unsynced m') mid → BehindIf m0 m' k xs o new
unfolding BehindIf
unsynced_behind m0 m m' k xs None (Some mid) new so_far next is = absurd so_far
unsynced_behind m0 m m' k xs None None new so_far next is = subst (λ (q : Option Past). BehindIf m0 m' k xs None q) (sym is) tt
unsynced_behind m0 m m' k xs (Some old) None new so_far next is = absurd so_far
unsynced_behind m0 m m' k xs (Some old) (Some mid) new so_far next is =
    subst (λ (q : Option Past). BehindIf m0 m' k xs (Some old) q) (sym is)
    (subst (λ (j : ℕ). Behind m0 j k xs old (unsynced j mid)) (sym next) (grown m0 m k xs old mid mid.now so_far so_far.wear))

-- what a sync that succeeds makes of it
pub synced_behind : (m0 m m' k : ℕ) (xs ys : List ℕ) (o mid new : Option Past) → BehindIf m0 m k xs o mid → m' ≡ m + 1 → new ≡ option_map (synced m' ys) mid → HasFront k xs ys
    → LeavesIf m0 m' (HasFront k xs) o new
unfolding BehindIf
synced_behind m0 m m' k xs ys None (Some mid) new so_far next is front = absurd so_far
synced_behind m0 m m' k xs ys None None new so_far next is front = subst (λ (q : Option Past). LeavesIf m0 m' (HasFront k xs) None q) (sym is) tt
synced_behind m0 m m' k xs ys (Some old) None new so_far next is front = absurd so_far
synced_behind m0 m m' k xs ys (Some old) (Some mid) new so_far next is front =
    subst (λ (q : Option Past). LeavesIf m0 m' (HasFront k xs) (Some old) q) (sym is)
    (subst (λ (j : ℕ). Leaves m0 j (HasFront k xs) old (synced j ys mid)) (sym next)
    (goes_on m0 m (HasFront k xs) old mid mid.now (settled ys) so_far.leaves (λ c left. front_kept k xs mid.now c so_far.wear left)
    (λ c left. ap (take k) (settled_kept ys c left) ∙ front)))

pub synced_settled : (m0 m m' : ℕ) (Q : List ℕ → Type 0) (ys : List ℕ) (o mid new : Option Past) → LeavesIf m0 m Q o mid → m' ≡ m + 1 → new ≡ option_map (synced m' ys) mid → IsSettled m' ys new
synced_settled m0 m m' Q ys None None new run next is = subst (λ (q : Option Past). IsSettled m' ys q) (sym is) tt
synced_settled m0 m m' Q ys None (Some mid) new run next is = absurd run
synced_settled m0 m m' Q ys (Some old) None new run next is = absurd run
synced_settled m0 m m' Q ys (Some old) (Some mid) new run next is =
    subst (λ (q : Option Past). IsSettled m' ys q) (sym is) (refl, (omega (arith, next), up_to_more m m' mid.notes (omega (arith, next)) run.up_to))

pub behind_leaves : (m0 m k : ℕ) (xs : List ℕ) (o new : Option Past) → BehindIf m0 m k xs o new → LeavesIf m0 m (HasFront k xs) o new
unfolding BehindIf
behind_leaves m0 m k xs None None so_far = tt
behind_leaves m0 m k xs None (Some new) so_far = absurd so_far
behind_leaves m0 m k xs (Some old) None so_far = absurd so_far
behind_leaves m0 m k xs (Some old) (Some new) so_far = so_far.leaves

-- ---- one byte is written behind a sync, and then a sync

-- since the count was m0 a crash leaves these bytes but for one, and at most that byte is unsynced
pub record ByteTorn (m0 m at : ℕ) (xs : List ℕ) (old new : Past) : Type 0 where
  pub leaves : Leaves m0 m (IsButFor at xs) old new
  pub wear : (new.now ≡ worn at 1 (settled xs)) × (at < length xs)

pub ByteTornIf : ℕ → ℕ → ℕ → List ℕ → Option Past → Option Past → Type 0
ByteTornIf m0 m at xs (Some old) (Some new) = ByteTorn m0 m at xs old new
ByteTornIf m0 m at xs (Some old) None = ⊥
ByteTornIf m0 m at xs None (Some new) = ⊥
ByteTornIf m0 m at xs None None = Unit {0}

pub same_but_for : (at : ℕ) (xs : List ℕ) → at < length xs → IsButFor at xs xs
same_but_for at xs lt = (get_or xs at 0, sym (take-append-drop at xs) ∙ ap (λ (l : List ℕ). take at xs ++ l) (drop_more xs at 0 lt))

torn_leaves : (at : ℕ) (xs c : List ℕ) (w : Wear) → w ≡ worn at 1 (settled xs) → at < length xs → MayLeave w c → IsButFor at xs c
torn_leaves at xs c w is lt left = byte_torn at xs c lt (subst (λ v. MayLeave v c) is left)

pub byte_written : (m m' at : ℕ) (xs : List ℕ) (o new : Option Past) → IsSettled m xs o → m' ≡ m + 1 → new ≡ option_map (wrote m' at 1) o → at < length xs → ByteTornIf m m' at xs o new
unfolding ByteTornIf
byte_written m m' at xs None new is next was lt = subst (λ (q : Option Past). ByteTornIf m m' at xs None q) (sym was) tt
byte_written m m' at xs (Some p) new is next was lt =
    subst (λ (q : Option Past). ByteTornIf m m' at xs (Some p) q) (sym was)
    (subst (λ (j : ℕ). ByteTorn m j at xs p (wrote j at 1 p)) (sym next) (record {
      leaves = goes_on m m (IsButFor at xs) p p (worn at 1 p.now) (worn at 1 p.now)
          (start m (IsButFor at xs) p is.1 (λ c left. subst (IsButFor at xs) (sym (settled_kept xs c (subst (λ w. MayLeave w c) is.0 left))) (same_but_for at xs lt)))
          (λ c left. torn_leaves at xs c (worn at 1 p.now) worn_is lt left)
          (λ c left. torn_leaves at xs c (worn at 1 p.now) worn_is lt left);
      wear = (worn_is, lt);
    }))
  where
    worn_is : worn at 1 p.now ≡ worn at 1 (settled xs)
    worn_is = ap (λ (w : Wear). worn at 1 w) is.0

pub byte_unsynced : (m0 m m' at : ℕ) (xs : List ℕ) (o mid new : Option Past) → ByteTornIf m0 m at xs o mid → m' ≡ m + 1 → new ≡ option_map (unsynced m') mid → LeavesIf m0 m' (IsButFor at xs) o new
unfolding ByteTornIf
byte_unsynced m0 m m' at xs None None new so_far next was = subst (λ (q : Option Past). LeavesIf m0 m' (IsButFor at xs) None q) (sym was) tt
byte_unsynced m0 m m' at xs None (Some mid) new so_far next was = absurd so_far
byte_unsynced m0 m m' at xs (Some old) None new so_far next was = absurd so_far
byte_unsynced m0 m m' at xs (Some old) (Some mid) new so_far next was =
    subst (λ (q : Option Past). LeavesIf m0 m' (IsButFor at xs) (Some old) q) (sym was)
    (subst (λ (j : ℕ). Leaves m0 j (IsButFor at xs) old (unsynced j mid)) (sym next)
    (goes_on m0 m (IsButFor at xs) old mid mid.now mid.now so_far.leaves
    (λ c left. torn_leaves at xs c mid.now so_far.wear.0 so_far.wear.1 left) (λ c left. torn_leaves at xs c mid.now so_far.wear.0 so_far.wear.1 left)))

pub byte_synced : (m0 m m' at : ℕ) (xs ys : List ℕ) (o mid new : Option Past) → ByteTornIf m0 m at xs o mid → m' ≡ m + 1 → new ≡ option_map (synced m' ys) mid → IsButFor at xs ys → LeavesIf m0 m' (IsButFor at xs) o new
unfolding ByteTornIf
byte_synced m0 m m' at xs ys None None new so_far next was end = subst (λ (q : Option Past). LeavesIf m0 m' (IsButFor at xs) None q) (sym was) tt
byte_synced m0 m m' at xs ys None (Some mid) new so_far next was end = absurd so_far
byte_synced m0 m m' at xs ys (Some old) None new so_far next was end = absurd so_far
byte_synced m0 m m' at xs ys (Some old) (Some mid) new so_far next was end =
    subst (λ (q : Option Past). LeavesIf m0 m' (IsButFor at xs) (Some old) q) (sym was)
    (subst (λ (j : ℕ). Leaves m0 j (IsButFor at xs) old (synced j ys mid)) (sym next)
    (goes_on m0 m (IsButFor at xs) old mid mid.now (settled ys) so_far.leaves
    (λ c left. torn_leaves at xs c mid.now so_far.wear.0 so_far.wear.1 left) (λ c left. subst (IsButFor at xs) (sym (settled_kept ys c left)) end)))

pub torn_run : (m0 m at : ℕ) (xs : List ℕ) (o new : Option Past) → ByteTornIf m0 m at xs o new → LeavesIf m0 m (IsButFor at xs) o new
unfolding ByteTornIf
torn_run m0 m at xs None None so_far = tt
torn_run m0 m at xs None (Some new) so_far = absurd so_far
torn_run m0 m at xs (Some old) None so_far = absurd so_far
torn_run m0 m at xs (Some old) (Some new) so_far = so_far.leaves

-- ---- runs, one behind the other, and with a wider claim

pub joined_if : (m0 m m' : ℕ) (Q : List ℕ → Type 0) (old mid new : Option Past) → LeavesIf m0 m Q old mid → LeavesIf m m' Q mid new → LeavesIf m0 m' Q old new
joined_if m0 m m' Q None None None a b = tt
joined_if m0 m m' Q None None (Some new) a b = absurd b
joined_if m0 m m' Q None (Some mid) new a b = absurd a
joined_if m0 m m' Q (Some old) None new a b = absurd a
joined_if m0 m m' Q (Some old) (Some mid) None a b = absurd b
joined_if m0 m m' Q (Some old) (Some mid) (Some new) a b = joined m0 m m' Q old mid new a b

pub weakened_if : (m0 m : ℕ) (Q Q' : List ℕ → Type 0) (old new : Option Past) → ((c : List ℕ) → Q c → Q' c) → LeavesIf m0 m Q old new → LeavesIf m0 m Q' old new
weakened_if m0 m Q Q' None None wider a = tt
weakened_if m0 m Q Q' None (Some new) wider a = absurd a
weakened_if m0 m Q Q' (Some old) None wider a = absurd a
weakened_if m0 m Q Q' (Some old) (Some new) wider a = weakened m0 m Q Q' old new wider a

-- a call that never began
pub passes : (m0 m m' : ℕ) (Q : List ℕ → Type 0) (o mid new : Option Past) → LeavesIf m0 m Q o mid → m' ≡ one_more m → new ≡ mid → LeavesIf m0 m' Q o new
passes m0 m m' Q None None new run next same = subst (λ (q : Option Past). LeavesIf m0 m' Q None q) (sym same) tt
passes m0 m m' Q None (Some mid) new run next same = absurd run
passes m0 m m' Q (Some old) None new run next same = absurd run
passes m0 m m' Q (Some old) (Some mid) new run next same =
    subst (λ (q : Option Past). LeavesIf m0 m' Q (Some old) q) (sym same)
    (record { later = omega (arith, next, run.later); since = run.since; before = run.before; up_to = up_to_more m m' mid.notes (omega (arith, next)) run.up_to })
