use Rattle.std.proofs.Common.{◌∙◌, ap}
use Rattle.kp_node.specs.Parts.{Parts}
use Rattle.kp_node.proofs.Sent.{snapshot_so}
use Rattle.kp_node.proofs.node.Node.snapshot.Goals as goal

pub returns-in-Ok-clause-ok : goal.returns-in-Ok-clause-ok
returns-in-Ok-clause-ok c = snapshot_so _ _ _ _ _ _ c.in-Ok.ensures.ok c.in_ok-image.ensures (ap (λ r. r.0) c.base-base.ensures ∙ ap (λ (p : Parts). p.member.held.log.base) c.self.view_is) c.behind.ensures
