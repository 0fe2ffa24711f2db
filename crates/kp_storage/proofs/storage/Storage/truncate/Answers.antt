use Rattle.std.proofs.Common.{◌≡◌, ◌-◌, length, ◌∙◌, arith}
use Rattle.kp_storage.proofs.Replay.{none_forgotten, one_more_forgotten, all_forgotten}
use Rattle.kp_storage.proofs.storage.Storage.truncate.Goals as goal

pub loop-init : goal.loop-init
loop-init c = none_forgotten c.args.self.now

pub loop-preserved : goal.loop-preserved
loop-preserved c = one_more_forgotten c.args.self.now c.loop.self c.forget_last.new.self c.loop.counter c.loop.invariant c.forget_last.ensures

pub returns : goal.returns
returns c =
    let left : length c.args.self.now.unapplied - c.loop.counter ≡ c.args.last - c.args.self.now.state.applied = omega (arith, c.last.ensures.index, c.requires.from, c.requires.to, c.loop-test.false, c.loop.auto.counter-end) in
    c.loop.invariant ∙ all_forgotten c.args.self.now c.loop.counter c.args.last left
