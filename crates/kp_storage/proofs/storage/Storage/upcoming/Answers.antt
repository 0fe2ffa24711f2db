use Rattle.std.proofs.Common.{◌<◌, ap, ◌∙◌, arith}
use Rattle.kp_model.specs.Store.{Store}
use Rattle.kp_storage.specs.Kept.{answers_of}
use Rattle.kp_storage.proofs.Replay.{answer_lent}
use Rattle.kp_storage.proofs.storage.Storage.upcoming.Goals as goal

pub returns : goal.returns
returns c =
    answer_lent c.args.self.now c.self.inside.answers.items c.front.result
    (c.self.invariant.answered ∙ ap (λ (x : Store). answers_of x.state x.unapplied) c.self.view_is)
    (λ some. c.front.ensures.variant.1 (omega (arith, some)))
    (λ there. let some : 0 < c.self.inside.answers.len = c.front.ensures.variant.0 there in omega (arith, some))
    c.front.ensures.lookup
