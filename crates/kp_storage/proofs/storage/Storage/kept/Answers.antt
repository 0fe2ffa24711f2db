use Rattle.std.proofs.Common.{◌-◌, ap, ◌∙◌, arith}
use Rattle.kp_model.specs.Store.{Store}
use Rattle.kp_storage.specs.Kept.{answers_of}
use Rattle.kp_storage.proofs.Replay.{kept_none, kept_some}
use Rattle.kp_storage.proofs.storage.Storage.kept.Goals as goal

pub returns-then-place-len : goal.returns-then-place-len
returns-then-place-len c =
    kept_none c.args.self.now c.self.inside.answers.items c.args.index (c.args.index - c.applied-applied.result - 1)
    (c.self.invariant.answered ∙ ap (λ (x : Store). answers_of x.state x.unapplied) c.self.view_is)
    (omega (arith, c.applied-applied.ensures, c.if-index-applied.false))
    (ap (λ n. c.args.index - n - 1) c.applied-applied.ensures)
    (omega (arith, c.len.ensures, c.if-place-len.true))

pub returns : goal.returns
returns c =
    kept_some c.args.self.now c.self.inside.answers.items c.args.index (c.args.index - c.applied-applied.result - 1) c.index.result.now
    (c.self.invariant.answered ∙ ap (λ (x : Store). answers_of x.state x.unapplied) c.self.view_is)
    (omega (arith, c.applied-applied.ensures, c.if-index-applied.false))
    (ap (λ n. c.args.index - n - 1) c.applied-applied.ensures)
    (omega (arith, c.len.ensures, c.if-place-len.false))
    c.index.ensures
