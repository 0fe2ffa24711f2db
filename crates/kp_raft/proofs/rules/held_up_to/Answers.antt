use Rattle.std.proofs.Common.{arith, sym, ◌∙◌, get_or}
use Rattle.kp_raft.proofs.HeldUp.{none_on}
use Rattle.kp_raft.proofs.rules.held_up_to.Goals as goal

pub loop-preserved : goal.loop-preserved
loop-preserved c = record {
  within = omega (arith, c.loop.invariant.within, c.next_below-index.ensures.within);
  none = none_on c.args.members c.args.me (λ k. get_or c.args.matches.now k 0) c.args.last c.loop.index c.next_below-index.result c.loop.invariant.none (sym c.is_held.ensures ∙ c.if-is_held.false) c.next_below-index.ensures.most;
}
