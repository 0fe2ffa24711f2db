use Rattle.std.proofs.Common.{sym, subst}
use Rattle.kp_model.specs.Good.{IsSound}
use Rattle.kp_model.proofs.GoodEmpty.{empty_sound}
use Rattle.kp_plain.proofs.Keeping.{keeps_none}
use Rattle.kp_plain.proofs.store.PlainStore.new.Goals as goal

pub invariant_of-result : goal.invariant_of-result
invariant_of-result c = rw (c.in_ok-new.ensures, c.new-2.ensures.items) keeps_none

pub returns-clause-sound : goal.returns-clause-sound
returns-clause-sound c = subst IsSound (sym c.in_ok-new.ensures) empty_sound
