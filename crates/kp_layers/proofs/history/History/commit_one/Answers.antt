use Rattle.std.proofs.Common.{◌+◌, ap, sym, ◌∙◌, refl, subst}
use Rattle.std.specs.Prelude.{option_and_then}
use Rattle.kp_layers.specs.Chains.{base_of, shown, recounted, IsCounted}
use Rattle.kp_layers.specs.Overlay.{commit_first}
use Rattle.kp_layers.proofs.Chained.{chains_pop_front, base_put, same_past}
use Rattle.kp_layers.proofs.Counted.{index_pop_front}
use Rattle.kp_layers.proofs.Filled.{counted_put, counted_there}
use Rattle.kp_layers.proofs.history.History.commit_one.Goals as goal

pub invariant_of-self : goal.invariant_of-self
invariant_of-self g c = (
  record {
    chains = chains_pop_front _ _ _ _ _ _ c.in-Some.ensures.items c.self.invariant.0.chains _ c.commit_cell-replaced.ensures.change;
    index = index_pop_front _ _ _ _ _ _ _ _ _ _ c.in-Some.ensures.items c.self.invariant.0.index c.take.ensures c.commit_cell-replaced.ensures.change.committed (c.group_of-group.ensures ∙ ap (option_and_then g.S.Grouping.group_of) c.commit_cell-replaced.ensures.before);
  },
  subst (λ n. IsCounted c.commit_cell-replaced.new.cells.entries (c.self.inside.first + 1) n) (sym (c.recounted-self-inside.ensures ∙ (λ i. recounted (c.is_some-had.ensures i) (c.is_some-given.ensures i) c.self.inside.filled)))
      (counted_put _ _ _ _ _ _ _ c.commit_cell-replaced.ensures.before c.commit_cell-replaced.ensures.change.committed c.self.invariant.1),
)

pub recounted-self-inside-requires-clause-there : goal.recounted-self-inside-requires-clause-there
recounted-self-inside-requires-clause-there g c = λ e. counted_there _ _ _ _ _ c.commit_cell-replaced.ensures.before c.self.invariant.1 (sym c.is_some-had.ensures ∙ e)

pub returns-in-Some : goal.returns-in-Some
returns-in-Some g c =
    same_past _ _ _ _ (base_put _ _ _ _ c.commit_cell-replaced.ensures.change.committed) refl
    ∙ ap (λ l. commit_first (base_of c.self.inside.cells.entries) (shown l)) (sym c.in-Some.ensures.items)
    ∙ ap (λ p. commit_first p.base p.writes) c.self.view_is
