use Rattle.kp_journal.proofs.Reading.{added_one}
use Rattle.kp_journal.proofs.found.Found.add.Goals as goal

pub invariant_of-self-2 : goal.invariant_of-self-2
invariant_of-self-2 c = added_one c.self.inside.records c.push_spelled.new.self c.self.inside.places.items c.reserve.new.self.items c.push_reserved.new.self.items c.args.bytes.now c.args.at c.self.invariant c.requires c.in_ok-push_spelled.ensures.ok c.reserve.ensures.items c.push_reserved.ensures.items
