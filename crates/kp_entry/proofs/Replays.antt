-- Records replayed one list behind another.
use Rattle.std.proofs.Common.{◌≡◌, List, [], ◌∷◌, ◌++◌, refl}
use Rattle.kp_entry.specs.declared.record.Record.{Record}
use Rattle.kp_entry.specs.Held.{Held, replay_one, replay}

pub replay_append : (h : Held) (rs ss : List Record) → replay h (rs ++ ss) ≡ replay (replay h rs) ss
replay_append h [] ss = refl
replay_append h (r ∷ rs) ss = replay_append (replay_one h r) rs ss
