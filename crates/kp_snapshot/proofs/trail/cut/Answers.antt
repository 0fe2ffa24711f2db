use Rattle.std.proofs.Common.{List, ℕ, sym, subst}
use Rattle.kp_snapshot.specs.Ups.{AreUps, ArePartedAt, AreRising}
use Rattle.kp_snapshot.proofs.Kept.{kept}
use Rattle.kp_snapshot.proofs.trail.cut.Goals as goal

pub returns : goal.returns
returns c = λ test last path ups none is less.
    let xs = c.args.ups.now.items in
    let keep = c.up_to-keep.result in
    let parted : AreRising xs → ArePartedAt c.args.most xs keep = subst (λ (ys : List ℕ). AreRising ys → ArePartedAt c.args.most ys keep) c.deref.ensures.value c.up_to-keep.ensures in
    subst (λ (ys : List ℕ). AreUps test path ys) (sym c.truncate.ensures.items) (kept test last path xs keep ups none less (subst (λ (m : ℕ). ArePartedAt m xs keep) is (parted ups.rising)))
