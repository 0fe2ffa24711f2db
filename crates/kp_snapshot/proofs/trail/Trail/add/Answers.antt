use Rattle.std.proofs.Common.{Bool, refl, sym, subst, ◌++◌, [], ◌∷◌}
use Rattle.kp_snapshot.specs.Rules.{is_open}
use Rattle.kp_snapshot.specs.Ups.{ChangedAt}
use Rattle.kp_snapshot.proofs.Tracked.{tracks_on, changed}
use Rattle.kp_snapshot.proofs.trail.Trail.add.Goals as goal

pub returns : goal.returns
returns c = λ before n at may ups free.
    let new = is_open (before ++ (c.args.path.now, n) ∷ []) in (
      tracks_on before c.args.self.now.last.now c.args.path.now n at may,
      c.in_ok-add_len.ensures (is_open before) new c.args.path.now ups refl (subst (λ (t : Bool). ChangedAt c.args.path.now t (is_open before) new) (sym free) (changed before c.args.self.now.last.now c.args.path.now n at may)),
    )
