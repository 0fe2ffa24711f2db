use Rattle.std.proofs.Common.{◌∙◌, sym, arith}
use Rattle.kp_model.proofs.Applied.{applied-apply}
use Rattle.kp_plain.proofs.Keeping.{next_sound}
use Rattle.kp_plain.proofs.Replay.{after_more, after_all}
use Rattle.kp_plain.proofs.store.replayed.Goals as goal

pub loop-entry-preserved : goal.loop-entry-preserved
loop-entry-preserved c =
    let more = after_more c.loop-entry.tree c.args.entries.now c.loop-entry.entry-index c.entry-item.result c.loop-entry-test.true c.entry-item.is in record {
      same = rw c.in_ok-tree-2.ensures (sym more ∙ c.loop-entry.invariant.same);
      count = rw c.in_ok-tree-2.ensures (omega (arith, applied-apply c.loop-entry.tree c.entry-item.result, c.loop-entry.invariant.count));
      sound = next_sound c.loop-entry.tree _ c.args.entries.now c.loop-entry.entry-index c.entry-item.result c.requires.taken c.loop-entry.invariant.sound (omega (arith, c.loop-entry.invariant.count)) c.loop-entry-test.true c.entry-item.is c.in_ok-tree-2.ensures;
    }

pub returns : goal.returns
returns c = sym (after_all c.loop-entry.tree c.args.entries.now c.loop-entry.entry-index c.loop-entry-test.false) ∙ c.loop-entry.invariant.same
