use Rattle.std.proofs.Common.{Option, sym, subst}
use Rattle.kp_model.specs.Good.{IsSound}
use Rattle.kp_model.proofs.GoodEmpty.{empty_sound}
use Rattle.kp_snapshot.specs.Snapshots.{Snapshot}
use Rattle.kp_audit.specs.Texts.{base_state}
use Rattle.kp_audit.proofs.replaying.take_base.Goals as goal

pub returns-in-None-clause-sound : goal.returns-in-None-clause-sound
returns-in-None-clause-sound c = subst (λ (i : Option Snapshot). IsSound (base_state i)) (sym c.in-None.is) empty_sound
