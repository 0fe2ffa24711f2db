use Rattle.kp_node.specs.Parts.{parts}
use Rattle.kp_node.proofs.FirstFed.{closed_holds}
use Rattle.kp_node.proofs.node.Node.close_word.Goals as goal

pub invariant_of-self : goal.invariant_of-self
invariant_of-self c = closed_holds (parts c.self.inside.raft c.self.inside.storage c.self.inside.seats c.self.inside.watches c.self.inside.expiry c.self.inside.spoken c.self.inside.boot c.self.inside.events) _ c.self.view_is c.self.invariant c.args.conn c.requires c.close_at.new.seats c.close_at.ensures
