use Rattle.std.proofs.Common.{◌≡◌, ◌≤◌, ◌+◌, ◌∙◌, ap, sym, arith, Some, None}
use Rattle.kp_model.specs.Store.{last}
use Rattle.kp_load.specs.Load.{after}
use Rattle.kp_top.specs.Loading.{Loading, loaded}
use Rattle.kp_top.proofs.Loads.{lines_left, begins, begins_within, begins_few, goes_on, goes_within, goes_down, ends}
use Rattle.kp_top.proofs.load.take_all.Goals as goal

pub loop-line-init : goal.loop-line-init
loop-line-init c = record {
  rest = begins c.args.lines.now c.args.work.now c.nothing-tally.result c.requires.blank c.nothing-tally.ensures c.requires.opens;
  within = begins_within c.args.work.now c.nothing-tally.result c.requires.blank c.nothing-tally.ensures;
  few = begins_few c.args.lines.now c.args.work.now c.requires.blank c.requires.opens c.requires.few;
}

pub loop-line-smaller : goal.loop-line-smaller
loop-line-smaller c =
    goes_down c.loop-line.lines c.next_of.new.lines c.loop-line.work c.count.new.self c.loop-line.n c.loop-line.tally c.in_ok-tally.tally c.in-Some.line
    (sym c.in_ok-line.ensures.line ∙ c.in-Some.is) c.in_ok-line.ensures.rest c.in_ok-tally.ensures.work c.in_ok-tally.ensures.tally

pub loop-line-preserved : goal.loop-line-preserved
loop-line-preserved c =
    let is : (after c.loop-line.lines c.loop-line.work.store.state.applied (last c.loop-line.work.store)).line ≡ Some c.in-Some.line = sym c.in_ok-line.ensures.line ∙ c.in-Some.is in
    let down = goes_down c.loop-line.lines c.next_of.new.lines c.loop-line.work c.count.new.self c.loop-line.n c.loop-line.tally c.in_ok-tally.tally c.in-Some.line is c.in_ok-line.ensures.rest c.in_ok-tally.ensures.work c.in_ok-tally.ensures.tally in
    record {
      rest = goes_on c.loop-line.lines c.next_of.new.lines c.loop-line.work c.count.new.self c.loop-line.n c.loop-line.tally c.in_ok-tally.tally c.in-Some.line is c.in_ok-line.ensures.rest c.in_ok-tally.ensures.work c.in_ok-tally.ensures.tally
          (loaded c.args.lines.now.number c.args.lines.now.left) c.loop-line.invariant.rest;
      within = goes_within c.loop-line.lines c.next_of.new.lines c.loop-line.work c.count.new.self c.loop-line.n c.loop-line.tally c.in_ok-tally.tally c.in-Some.line is c.in_ok-line.ensures.rest c.in_ok-tally.ensures.work c.in_ok-tally.ensures.tally c.loop-line.invariant.within;
      few = omega (arith, down, c.loop-line.invariant.few);
    }

pub returns-clause-work : goal.returns-clause-work
returns-clause-work c =
    let none : (after c.loop-line.lines c.loop-line.work.store.state.applied (last c.loop-line.work.store)).line ≡ None = sym c.in_ok-line.ensures.line ∙ c.in_default.is in
    ap (λ (s : Loading). s.work) (ends c.loop-line.lines c.loop-line.work c.loop-line.n c.loop-line.tally (loaded c.args.lines.now.number c.args.lines.now.left) none c.loop-line.invariant.rest)

pub returns-clause-tally : goal.returns-clause-tally
returns-clause-tally c =
    let none : (after c.loop-line.lines c.loop-line.work.store.state.applied (last c.loop-line.work.store)).line ≡ None = sym c.in_ok-line.ensures.line ∙ c.in_default.is in
    ap (λ (s : Loading). s.tally) (ends c.loop-line.lines c.loop-line.work c.loop-line.n c.loop-line.tally (loaded c.args.lines.now.number c.args.lines.now.left) none c.loop-line.invariant.rest)
