use Rattle.std.proofs.Common.{◌+◌, drop, sym, ap, ◌∙◌}
use Rattle.kp_prep.specs.Changing.{set_all}
use Rattle.kp_plain.proofs.Replay.{set_more, set_none}
use Rattle.kp_plain.proofs.tree.Tree.changed.Goals as goal

pub loop-change-preserved : goal.loop-change-preserved
loop-change-preserved c =
    ap (λ s. set_all s (drop (c.loop-change.change-index + 1) c.args.changes.now)) c.in_ok-tree.ensures
    ∙ sym (set_more c.loop-change.tree c.args.changes.now c.loop-change.change-index c.change-item.result c.loop-change-test.true c.change-item.is)
    ∙ c.loop-change.invariant

pub returns : goal.returns
returns c = sym (set_none c.loop-change.tree c.args.changes.now c.loop-change.change-index c.loop-change-test.false) ∙ c.loop-change.invariant
