use Rattle.std.proofs.Common.{◌≡◌, true, subst}
use Rattle.kp_model.specs.Good.{IsSound}
use Rattle.kp_model.specs.Grammar.{is_number}
use Rattle.kp_snapshot.specs.Snapshots.{Snapshot, snapshot_in}
use Rattle.kp_snapshot.proofs.Sound.{sound}
use Rattle.kp_snapshot.proofs.Spelled.{fits_as}
use Rattle.kp_snapshot.proofs.image.Image.stays_sound.Goals as goal

pub returns-clause-sound : goal.returns-clause-sound
returns-clause-sound c = subst (λ (s : Snapshot). IsSound s.state) c.self.view_is (sound (snapshot_in c.self.inside.bytes.items) (fits_as c.self.inside.bytes.items c.self.invariant.spelled))

pub returns-clause-term : goal.returns-clause-term
returns-clause-term c = subst (λ (s : Snapshot). is_number s.term ≡ true) c.self.view_is (fits_as c.self.inside.bytes.items c.self.invariant.spelled).1.1.0.1
