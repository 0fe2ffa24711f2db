-- Bytes that spell a snapshot stand for it.
use Rattle.std.proofs.Common.{◌≡◌, ℕ, ◌+◌, List, [], length, Ok, refl, sym, ap, subst, ◌∙◌}
use Rattle.std.proofs.lemmas.List.{append-nil}
use Rattle.kp_jute.specs.Form.{front}
use Rattle.kp_entry.specs.Spellings.{Spells}
use Rattle.kp_snapshot.specs.Snapshots.{Snapshot, images, snapshot_in}
use Rattle.kp_snapshot.proofs.ImageLaws.{images_lawful}

-- they are read to their end
pub read_again : (s : Snapshot) (bytes : List ℕ) → images.Fits s → bytes ≡ images.spell s → images.read (front 0 bytes) ≡ Ok (s, front (0 + length (images.spell s)) [])
read_again s bytes fits e = ap (λ (b : List ℕ). images.read (front 0 b)) (e ∙ sym (append-nil (images.spell s))) ∙ images_lawful.again s 0 [] fits

pub stands_for : (s : Snapshot) (bytes : List ℕ) → images.Fits s → bytes ≡ images.spell s → snapshot_in bytes ≡ s
unfolding snapshot_in
stands_for s bytes fits e = rw (read_again s bytes fits e) refl

pub spelled_as : (bytes : List ℕ) → Spells images bytes → bytes ≡ images.spell (snapshot_in bytes)
spelled_as bytes is = is.2 ∙ ap images.spell (sym (stands_for is.0 bytes is.1 is.2))

pub fits_as : (bytes : List ℕ) → Spells images bytes → images.Fits (snapshot_in bytes)
fits_as bytes is = subst images.Fits (sym (stands_for is.0 bytes is.1 is.2)) is.1
