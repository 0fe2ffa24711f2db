use Rattle.std.proofs.Common.{ap, ◌∙◌}
use Rattle.kp_model.specs.State.{State}
use Rattle.kp_plain.proofs.Replay.{taken_is}
use Rattle.kp_plain.proofs.tree.Tree.take.Goals as goal

pub returns : goal.returns
returns c = taken_is c.args.self (record { nodes = c.tree.inside.nodes; sessions = c.tree.inside.sessions; next = c.tree.inside.next; applied = c.tree.inside.applied }) c.args.entry.now c.self.inside.applied c.in_ok-prepared.field-0.prepared c.in_ok-prepared.field-0.changes c.as_slice.result.now
    (ap (λ (s : State). s.applied) c.self.view_is) c.in_ok-prepared.ensures.reply c.in_ok-prepared.ensures.events c.in_ok-prepared.ensures.changes c.as_slice.ensures (c.tree.view_is ∙ c.in_ok-tree.ensures)
