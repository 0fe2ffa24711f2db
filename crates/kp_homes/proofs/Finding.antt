-- Crashes in the words of what opening finds.
use Rattle.std.proofs.Common.{◌≡◌, inl, inr, ℕ, ◌+◌, ◌<◌, List, [], length, Option, Some, None, Ok, refl, ◌∙◌, ap, subst, arith, length-append}
use Rattle.std.proofs.lemmas.List.{append-nil}
use Rattle.kp_io.specs.Crash.{Past}
use Rattle.kp_io.specs.declared.home.Four.{Four}
use Rattle.kp_jute.specs.Form.{◌⊗◌, tagged, front, whole, ended}
use Rattle.kp_entry.specs.Fields.{numbers}
use Rattle.kp_snapshot.specs.Images.{mark, nexts, tables}
use Rattle.kp_snapshot.specs.Snapshots.{Snapshot, parts_of, images}
use Rattle.kp_snapshot.proofs.ImageLaws.{images_lawful}
use Rattle.kp_homes.specs.Stands.{Bytes4, Stand, stands, choice, StandsForEither, StandsForOnly}
use Rattle.kp_homes.specs.Opening.{Found, found, found_in, live_slot, image_in, image_read}
use Rattle.kp_homes.specs.Homes.{FindsEither, FindsOnly}
use Rattle.kp_homes.proofs.Looking.{found_at, some_image}
use Rattle.kp_homes.proofs.Lifting.{found_either}

-- opening finds on disks what it finds in the value that they stand for
pub stands_found : (node k : ℕ) (c : Bytes4) (v : Stand) (f : Found) → stands node c ≡ Some (Ok v) → found_in k (Ok v) ≡ Ok f → found node c ≡ Ok f
stands_found node k c v f is finds = found_at node c (Some (Ok v)) is ∙ found_either k (live_slot (choice c.j0 c.j1)) v f finds

pub either_found : {H : Type 0} (past : H → Option Past) (node k l m : ℕ) (home : Four H) (v w : Stand) (f g : Found) → StandsForEither node past m home v w → found_in k (Ok v) ≡ Ok f → found_in l (Ok w) ≡ Ok g → FindsEither node past m home f g
either_found past node k l m home v w f g stand is_f is_g n c lt left =
    elim (stand n c lt left) [ inl e ↦ inl (stands_found node k c v f e is_f) | inr e ↦ inr (stands_found node l c w g e is_g) ]

pub only_found : {H : Type 0} (past : H → Option Past) (node k m : ℕ) (home : Four H) (v : Stand) (f : Found) → StandsForOnly node past m home v → found_in k (Ok v) ≡ Ok f → FindsOnly node past m home f
only_found past node k m home v f stand is n c lt left = stands_found node k c v f (stand n c lt left) is

-- ---- the bytes of an image

some_bytes : (s : Snapshot) → 0 < length (images.spell s)
some_bytes s =
    let tail = (tagged numbers (λ index. numbers ⊗ tagged nexts (tables index))).spell (parts_of s).1 in
    let len : length (images.spell s) ≡ 4 + length tail = length-append mark tail in
    omega (arith, len)

spelled_whole : (s : Snapshot) → images.Fits s → whole images (images.spell s) ≡ Ok s
spelled_whole s fits =
    subst (λ (bytes : List ℕ). ended (images.read (front 0 bytes)) ≡ Ok s) (append-nil (images.spell s)) (ap ended (images_lawful.again s 0 [] fits))

pub spelled_image : (s : Snapshot) → images.Fits s → image_in 0 (images.spell s) ≡ Ok (Some s)
spelled_image s fits = some_image 0 (images.spell s) (some_bytes s) ∙ ap (image_read 0) (spelled_whole s fits)

pub no_bytes : image_in 0 [] ≡ Ok None
unfolding image_in
no_bytes = refl
