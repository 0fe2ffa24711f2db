use Rattle.std.proofs.Common.{refl}
use Rattle.kp_conn.specs.Connection.{taken_back}
use Rattle.kp_node.specs.Parts.{parts}
use Rattle.kp_node.proofs.FirstFed.{changed_holds}
use Rattle.kp_node.proofs.node.Node.unput_word.Goals as goal

pub invariant_of-self : goal.invariant_of-self
invariant_of-self c = changed_holds (parts c.self.inside.raft c.self.inside.storage c.self.inside.seats c.self.inside.watches c.self.inside.expiry c.self.inside.spoken c.self.inside.boot c.self.inside.events) _ c.self.view_is c.self.invariant c.args.conn c.requires taken_back (λ d. refl) (λ d. refl) c.unput_at.new.seats c.unput_at.ensures
