-- Runs of calls on one disk, of which it is known what was done since its last sync.
use Rattle.std.proofs.Common.{◌≡◌, ℕ, ◌+◌, List, Option, Some, None, ⊎_elim, refl, sym, ap, subst, arith}
use Rattle.std.specs.Option.{option_map}
use Rattle.kp_io.specs.Crash.{Wear, Past, MayLeave, Leaves, LeavesIf, IsSettled, HasRoom, IsNotedOrNot, settled, worn, shortened, noted, wrote, cut_down, synced, unsynced}
use Rattle.kp_io.specs.Faults.{one_more}
use Rattle.kp_io.proofs.Leaving.{start, goes_on, up_to_more}
use Rattle.kp_io.proofs.Behind.{passes}
use Rattle.kp_io.proofs.Wears.{settled_kept}

-- what is done to a wear within Q
abbrev pub Allows : (List ℕ → Type 0) → Wear → Type 0
Allows Q w = (c : List ℕ) → MayLeave w c → Q c

-- since the count was m0 a crash leaves what has Q, and this was done since the last sync
pub record Known (m0 m : ℕ) (Q : List ℕ → Type 0) (w : Wear) (old new : Past) : Type 0 where
  pub leaves : Leaves m0 m Q old new
  pub is : new.now ≡ w

pub KnownIf : ℕ → ℕ → (List ℕ → Type 0) → Wear → Option Past → Option Past → Type 0
KnownIf m0 m Q w (Some old) (Some new) = Known m0 m Q w old new
KnownIf m0 m Q w (Some old) None = ⊥
KnownIf m0 m Q w None (Some new) = ⊥
KnownIf m0 m Q w None None = Unit {0}

pub known : (m : ℕ) (Q : List ℕ → Type 0) (xs : List ℕ) (o : Option Past) → IsSettled m xs o → Q xs → KnownIf m m Q (settled xs) o o
unfolding KnownIf
known m Q xs None is here = tt
known m Q xs (Some p) is here = record { leaves = start m Q p is.1 (λ c left. subst Q (sym (settled_kept xs c (subst (λ w. MayLeave w c) is.0 left))) here); is = is.0 }

-- one call more
noted_known : (m0 m : ℕ) (Q : List ℕ → Type 0) (w now : Wear) (old mid : Past) → Known m0 m Q w old mid → Allows Q w → Allows Q now → Known m0 (m + 1) Q now old (noted (m + 1) mid.now now mid)
noted_known m0 m Q w now old mid k before behind = record { leaves = goes_on m0 m Q old mid mid.now now k.leaves (λ c left. before c (subst (λ v. MayLeave v c) k.is left)) behind; is = refl }

worn_known : (m0 m : ℕ) (Q : List ℕ → Type 0) (w now made : Wear) (old mid : Past) → Known m0 m Q w old mid → made ≡ now → Allows Q now → Known m0 (m + 1) Q now old (noted (m + 1) made made mid)
worn_known m0 m Q w now made old mid k is behind = record {
  leaves = goes_on m0 m Q old mid made made k.leaves (λ c left. behind c (subst (λ v. MayLeave v c) is left)) (λ c left. behind c (subst (λ v. MayLeave v c) is left));
  is = is;
}

step_is : (m m' : ℕ) → m' ≡ one_more m → HasRoom m' → m' ≡ m + 1
step_is m m' is room = omega (arith, is, room)

pub wrote_known : (m0 m m' : ℕ) (Q : List ℕ → Type 0) (w : Wear) (o mid new : Option Past) (at n : ℕ) → KnownIf m0 m Q w o mid → m' ≡ one_more m → HasRoom m' → new ≡ option_map (wrote m' at n) mid
    → Allows Q (worn at n w) → KnownIf m0 m' Q (worn at n w) o new
unfolding KnownIf
wrote_known m0 m m' Q w None None new at n k is room was behind = subst (λ (q : Option Past). KnownIf m0 m' Q (worn at n w) None q) (sym was) tt
wrote_known m0 m m' Q w None (Some mid) new at n k is room was behind = absurd k
wrote_known m0 m m' Q w (Some old) None new at n k is room was behind = absurd k
wrote_known m0 m m' Q w (Some old) (Some mid) new at n k is room was behind =
    subst (λ (q : Option Past). KnownIf m0 m' Q (worn at n w) (Some old) q) (sym was)
    (subst (λ (j : ℕ). Known m0 j Q (worn at n w) old (wrote j at n mid)) (sym (step_is m m' is room)) (worn_known m0 m Q w (worn at n w) (worn at n mid.now) old mid k (ap (λ (v : Wear). worn at n v) k.is) behind))

pub cut_known : (m0 m m' : ℕ) (Q : List ℕ → Type 0) (w : Wear) (o mid new : Option Past) (n : ℕ) → KnownIf m0 m Q w o mid → m' ≡ one_more m → HasRoom m' → new ≡ option_map (cut_down m' n) mid
    → Allows Q (shortened n w) → KnownIf m0 m' Q (shortened n w) o new
unfolding KnownIf
cut_known m0 m m' Q w None None new n k is room was behind = subst (λ (q : Option Past). KnownIf m0 m' Q (shortened n w) None q) (sym was) tt
cut_known m0 m m' Q w None (Some mid) new n k is room was behind = absurd k
cut_known m0 m m' Q w (Some old) None new n k is room was behind = absurd k
cut_known m0 m m' Q w (Some old) (Some mid) new n k is room was behind =
    subst (λ (q : Option Past). KnownIf m0 m' Q (shortened n w) (Some old) q) (sym was)
    (subst (λ (j : ℕ). Known m0 j Q (shortened n w) old (cut_down j n mid)) (sym (step_is m m' is room)) (worn_known m0 m Q w (shortened n w) (shortened n mid.now) old mid k (ap (λ (v : Wear). shortened n v) k.is) behind))

pub unsynced_known : (m0 m m' : ℕ) (Q : List ℕ → Type 0) (w : Wear) (o mid new : Option Past) → KnownIf m0 m Q w o mid → m' ≡ one_more m → HasRoom m' → new ≡ option_map (unsynced m') mid → Allows Q w → KnownIf m0 m' Q w o new
unfolding KnownIf
unsynced_known m0 m m' Q w None None new k is room was behind = subst (λ (q : Option Past). KnownIf m0 m' Q w None q) (sym was) tt
unsynced_known m0 m m' Q w None (Some mid) new k is room was behind = absurd k
unsynced_known m0 m m' Q w (Some old) None new k is room was behind = absurd k
unsynced_known m0 m m' Q w (Some old) (Some mid) new k is room was behind =
    subst (λ (q : Option Past). KnownIf m0 m' Q w (Some old) q) (sym was)
    (subst (λ (j : ℕ). Known m0 j Q w old (unsynced j mid)) (sym (step_is m m' is room)) (worn_known m0 m Q w w mid.now old mid k k.is behind))

pub synced_known : (m0 m m' : ℕ) (Q : List ℕ → Type 0) (w : Wear) (ys : List ℕ) (o mid new : Option Past) → KnownIf m0 m Q w o mid → m' ≡ one_more m → HasRoom m' → new ≡ option_map (synced m' ys) mid → Allows Q w → Q ys
    → KnownIf m0 m' Q (settled ys) o new
unfolding KnownIf
synced_known m0 m m' Q w ys None None new k is room was before here = subst (λ (q : Option Past). KnownIf m0 m' Q (settled ys) None q) (sym was) tt
synced_known m0 m m' Q w ys None (Some mid) new k is room was before here = absurd k
synced_known m0 m m' Q w ys (Some old) None new k is room was before here = absurd k
synced_known m0 m m' Q w ys (Some old) (Some mid) new k is room was before here =
    subst (λ (q : Option Past). KnownIf m0 m' Q (settled ys) (Some old) q) (sym was)
    (subst (λ (j : ℕ). Known m0 j Q (settled ys) old (synced j ys mid)) (sym (step_is m m' is room))
    (noted_known m0 m Q w (settled ys) old mid k before (λ c left. subst Q (sym (settled_kept ys c left)) here)))

-- a call that only looks
pub looked : (m m' : ℕ) (xs : List ℕ) (o new : Option Past) → IsSettled m xs o → m' ≡ one_more m → new ≡ o → IsSettled m' xs new
looked m m' xs None new is next was = subst (λ (q : Option Past). IsSettled m' xs q) (sym was) tt
looked m m' xs (Some p) new is next was = subst (λ (q : Option Past). IsSettled m' xs q) (sym was) (is.0, up_to_more m m' p.notes (omega (arith, next)) is.1)

pub looks_still : (m m' : ℕ) (Q : List ℕ → Type 0) (xs : List ℕ) (o new : Option Past) → IsSettled m xs o → m' ≡ one_more m → new ≡ o → Q xs → LeavesIf m m' Q o new
looks_still m m' Q xs None new is next was here = subst (λ (q : Option Past). LeavesIf m m' Q None q) (sym was) tt
looks_still m m' Q xs (Some p) new is next was here =
    let k = start m Q p is.1 (λ c left. subst Q (sym (settled_kept xs c (subst (λ w. MayLeave w c) is.0 left))) here) in
    subst (λ (q : Option Past). LeavesIf m m' Q (Some p) q) (sym was)
    (record { later = omega (arith, next); since = k.since; before = k.before; up_to = up_to_more m m' p.notes (omega (arith, next)) is.1 })

pub known_leaves : (m0 m : ℕ) (Q : List ℕ → Type 0) (w : Wear) (o new : Option Past) → KnownIf m0 m Q w o new → LeavesIf m0 m Q o new
unfolding KnownIf
known_leaves m0 m Q w None None k = tt
known_leaves m0 m Q w None (Some new) k = absurd k
known_leaves m0 m Q w (Some old) None k = absurd k
known_leaves m0 m Q w (Some old) (Some new) k = k.leaves

pub known_settled : (m0 m : ℕ) (Q : List ℕ → Type 0) (ys : List ℕ) (o new : Option Past) → KnownIf m0 m Q (settled ys) o new → IsSettled m ys new
unfolding KnownIf
known_settled m0 m Q ys None None k = tt
known_settled m0 m Q ys None (Some new) k = absurd k
known_settled m0 m Q ys (Some old) None k = absurd k
known_settled m0 m Q ys (Some old) (Some new) k = (k.is, k.leaves.up_to)

-- a call that failed
pub failed_write : (m0 m m' : ℕ) (Q : List ℕ → Type 0) (w : Wear) (o mid new : Option Past) (at n : ℕ) → KnownIf m0 m Q w o mid → m' ≡ one_more m → HasRoom m' → IsNotedOrNot (wrote m' at n) mid new
    → Allows Q (worn at n w) → LeavesIf m0 m' Q o new
failed_write m0 m m' Q w o mid new at n k is room was behind =
    ⊎_elim (λ noted. known_leaves m0 m' Q (worn at n w) o new (wrote_known m0 m m' Q w o mid new at n k is room noted behind)) (λ same. passes m0 m m' Q o mid new (known_leaves m0 m Q w o mid k) is same) was

pub failed_cut : (m0 m m' : ℕ) (Q : List ℕ → Type 0) (w : Wear) (o mid new : Option Past) (n : ℕ) → KnownIf m0 m Q w o mid → m' ≡ one_more m → HasRoom m' → IsNotedOrNot (cut_down m' n) mid new
    → Allows Q (shortened n w) → LeavesIf m0 m' Q o new
failed_cut m0 m m' Q w o mid new n k is room was behind =
    ⊎_elim (λ noted. known_leaves m0 m' Q (shortened n w) o new (cut_known m0 m m' Q w o mid new n k is room noted behind)) (λ same. passes m0 m m' Q o mid new (known_leaves m0 m Q w o mid k) is same) was

pub failed_sync : (m0 m m' : ℕ) (Q : List ℕ → Type 0) (w : Wear) (o mid new : Option Past) → KnownIf m0 m Q w o mid → m' ≡ one_more m → HasRoom m' → IsNotedOrNot (unsynced m') mid new → Allows Q w → LeavesIf m0 m' Q o new
failed_sync m0 m m' Q w o mid new k is room was before =
    ⊎_elim (λ noted. known_leaves m0 m' Q w o new (unsynced_known m0 m m' Q w o mid new k is room noted before)) (λ same. passes m0 m m' Q o mid new (known_leaves m0 m Q w o mid k) is same) was
