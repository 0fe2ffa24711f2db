use Rattle.std.proofs.Common.{◌≡◌, ◌<◌, length, ap, sym, ◌∙◌, arith}
use Rattle.std.proofs.lemmas.Bool.Decides.{nat_tests}
use Rattle.kp_model.specs.Store.{Store, commit_answer, commit_leaves}
use Rattle.kp_storage.specs.Kept.{store}
use Rattle.kp_storage.proofs.Replay.{answer_none, leaves_none, answer_popped}
use Rattle.kp_storage.proofs.Keeping.{keeps_as, keeps_rest, store_rest, as_many}
use Rattle.kp_storage.proofs.storage.Storage.commit.Goals as goal

pub returns-then-is_empty-clause-answer : goal.returns-then-is_empty-clause-answer
returns-then-is_empty-clause-answer c =
    let none : length c.self.inside.entries.items ≡ 0 = grind (arith, nat_tests) in
    answer_none _ c.self.inside.entries.items none ∙ ap (λ (x : Store). commit_answer x.state x.unapplied) c.self.view_is

pub returns-then-is_empty-clause-state : goal.returns-then-is_empty-clause-state
returns-then-is_empty-clause-state c =
    let none : length c.self.inside.entries.items ≡ 0 = grind (arith, nat_tests) in
    leaves_none c.args.self.now (ap (λ (x : Store). length x.unapplied) (sym c.self.view_is) ∙ none)

pub invariant_of-self : goal.invariant_of-self
invariant_of-self c =
    let some : 0 < length c.self.inside.entries.items = grind (arith, nat_tests) in
    keeps_as _ c.commit_front.new.self _ c.pop_front.new.self.items _ c.pop_front-3.new.self.items c.commit_front.ensures.changed c.pop_front.ensures.rest c.pop_front-3.ensures.rest (keeps_rest c.self.inside.cells c.self.inside.entries.items c.self.inside.answers.items c.self.invariant some)

pub returns-clause-answer : goal.returns-clause-answer
returns-clause-answer c =
    let some : 0 < length c.self.inside.entries.items = grind (arith, nat_tests) in
    answer_popped _ c.self.inside.entries.items c.self.inside.answers.items c.pop_front-3.result c.self.invariant.answered some (λ d. c.pop_front-3.ensures.value d (omega (arith, some, as_many c.self.inside.cells c.self.inside.entries.items c.self.inside.answers.items c.self.invariant)))
    ∙ ap (λ (x : Store). commit_answer x.state x.unapplied) c.self.view_is

pub returns-clause-state : goal.returns-clause-state
returns-clause-state c =
    let some : 0 < length c.self.inside.entries.items = grind (arith, nat_tests) in
    (λ i. store (c.commit_front.ensures.changed i) (c.pop_front.ensures.rest i))
    ∙ store_rest c.self.inside.cells c.self.inside.entries.items c.self.inside.answers.items c.self.invariant some
    ∙ ap (λ (x : Store). commit_leaves x.state x.unapplied) c.self.view_is
