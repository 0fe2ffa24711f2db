use Rattle.std.proofs.Common.{◌+◌, ◌<◌, length, sym, subst}
use Rattle.kp_model.specs.Store.{Store}
use Rattle.kp_model.specs.Grammar.{IsEntry}
use Rattle.kp_plain.proofs.Keeping.{keeps_more}
use Rattle.kp_plain.proofs.store.PlainStore.preprocess.Goals as goal

pub invariant_of-self-2 : goal.invariant_of-self-2
invariant_of-self-2 c = rw c.in_ok-push.ensures.items (keeps_more c.self.inside.state c.self.inside.unapplied.items c.in_ok-entry.entry c.self.invariant
    (subst (λ (x : Store). x.state.applied + length x.unapplied < 4611686018427387904) (sym c.self.view_is) c.requires.room)
    (subst IsEntry (sym c.in_ok-entry.ensures.same) c.copy.ensures.grammar))
