use Rattle.std.proofs.Common.{ap, sym, subst, ◌∙◌, refl, Option, IsSome, is_some}
use Rattle.std.specs.FinMap as map
use Rattle.kp_layers.proofs.Chained.{base_put, same_past, get-base_of}
use Rattle.kp_layers.proofs.Replaced.{cell_there, chains_kept, index_kept, base_replaced}
use Rattle.kp_layers.proofs.Filled.{counted_replaced}
use Rattle.kp_layers.proofs.history.History+V+Ungrouped.replace.Goals as goal

pub commit_cell-replaced-requires : goal.commit_cell-replaced-requires
commit_cell-replaced-requires g c = cell_there _ (subst (λ (o : Option g.row.V.Denot). IsSome o) (ap (λ p. map.get p.base c.args.key) (sym c.self.view_is) ∙ get-base_of c.self.inside.cells.entries c.args.key) c.requires)

pub invariant_of-self : goal.invariant_of-self
invariant_of-self g c = (
  record {
    chains = chains_kept _ _ _ _ _ _ c.self.invariant.0.chains c.commit_cell-replaced.ensures.change;
    index = index_kept _ _ _ _ _ c.self.invariant.0.index;
  },
  counted_replaced _ _ _ _ _ _ (ap (λ p. is_some (map.get p.base c.args.key)) c.self.view_is ∙ c.requires) c.commit_cell-replaced.ensures.change.committed c.self.invariant.1,
)

pub returns : goal.returns
returns g c =
    same_past _ _ _ _ (base_put _ _ _ _ c.commit_cell-replaced.ensures.change.committed) refl
    ∙ base_replaced _ _ c.args.key c.args.value c.self.view_is
