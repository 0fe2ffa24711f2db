use Rattle.std.proofs.Common.{refl}
use Rattle.kp_conn.specs.Connection.{put}
use Rattle.kp_node.specs.Parts.{parts}
use Rattle.kp_node.proofs.FirstFed.{either_way, changed_holds, still_holds}
use Rattle.kp_node.proofs.node.Node.put_word.Goals as goal

pub invariant_of-self : goal.invariant_of-self
invariant_of-self c = either_way _ _ _ c.put_at.result c.put_at.ensures.ok c.put_at.ensures.err
    (λ h. changed_holds (parts c.self.inside.raft c.self.inside.storage c.self.inside.seats c.self.inside.watches c.self.inside.expiry c.self.inside.spoken c.self.inside.boot c.self.inside.events) _ c.self.view_is c.self.invariant c.args.conn c.requires (put c.args.text.now) (λ d. refl) (λ d. refl) c.put_at.new.seats h)
    (λ h. still_holds (parts c.self.inside.raft c.self.inside.storage c.self.inside.seats c.self.inside.watches c.self.inside.expiry c.self.inside.spoken c.self.inside.boot c.self.inside.events) _ c.self.view_is c.self.invariant c.args.conn c.requires c.put_at.new.seats h)
