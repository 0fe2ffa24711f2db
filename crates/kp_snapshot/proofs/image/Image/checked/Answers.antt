use Rattle.std.proofs.Common.{◌≡◌, List, ℕ, Ok, subst}
use Rattle.kp_jute.specs.Form.{whole}
use Rattle.kp_snapshot.specs.Snapshots.{images, snapshot_in, IsImage}
use Rattle.kp_snapshot.proofs.Whole.{is_image, reads_it}
use Rattle.kp_snapshot.proofs.image.Image.checked.Goals as goal

pub invariant_of-result : goal.invariant_of-result
invariant_of-result c =
    let s = c.in-Ok.ensures.read in
    subst (λ (b : List ℕ). IsImage b c.in-Ok.head.index c.in-Ok.head.term) c.deref.ensures.value (is_image c.deref.result.now s.0 c.in-Ok.head.index c.in-Ok.head.term c.check.ensures.bytes s.1 s.2.0 s.2.1)

pub returns-in-Ok-clause-read : goal.returns-in-Ok-clause-read
returns-in-Ok-clause-read c =
    let s = c.in-Ok.ensures.read in
    subst (λ (b : List ℕ). whole images b ≡ Ok (snapshot_in b)) c.deref.ensures.value (reads_it c.deref.result.now s.0 c.check.ensures.bytes s.1)
