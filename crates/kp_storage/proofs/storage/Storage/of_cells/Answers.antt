use Rattle.std.proofs.Common.{ap}
use Rattle.kp_storage.specs.Kept.{store}
use Rattle.kp_storage.proofs.Keeping.{keeps_none}
use Rattle.kp_storage.proofs.storage.Storage.of_cells.Goals as goal

pub invariant_of-result : goal.invariant_of-result
invariant_of-result c = rw (c.new.ensures.items, c.new-2.ensures.items) (keeps_none c.args.cells c.requires.settled c.requires.sound)

pub returns : goal.returns
returns c = ap (store c.args.cells) c.new.ensures.items
