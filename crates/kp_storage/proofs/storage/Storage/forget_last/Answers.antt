use Rattle.std.proofs.Common.{arith}
use Rattle.kp_storage.proofs.Keeping.{keeps_as, keeps_but_last}
use Rattle.kp_storage.proofs.storage.Storage.forget_last.Goals as goal

pub invariant_of-self : goal.invariant_of-self
invariant_of-self c = keeps_as _ c.drop_back.new.self _ c.pop_back.new.self.items _ c.pop_back-3.new.self.items c.drop_back.ensures.changed c.pop_back.ensures.rest c.pop_back-3.ensures.rest (keeps_but_last c.self.inside.cells c.self.inside.entries.items c.self.inside.answers.items c.self.invariant c.self.inside.entries.len c.self.inside.answers.len (omega arith) (omega arith))
