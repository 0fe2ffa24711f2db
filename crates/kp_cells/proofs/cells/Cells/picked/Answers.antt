use Rattle.std.proofs.Common.{◌≡◌, ap, sym, ◌∙◌, subst}
use Rattle.std.specs.List.{filter}
use Rattle.std.specs.FinMap as fin
use Rattle.kp_cells.specs.Listed.{side_of, passes, AreAmong}
use Rattle.kp_cells.proofs.Anyone.{if_ok}
use Rattle.kp_cells.proofs.Walked.{keys_among}
use Rattle.kp_cells.proofs.Gathered.{gathered}
use Rattle.kp_cells.proofs.cells.Cells.picked.Goals as goal

pub list-requires-clause-all : goal.list-requires-clause-all
list-requires-clause-all g c =
    let m = side_of c.args.latest c.self.inside.nodes.metas in
    let are : c.as_slice.result.now ≡ fin.keys m = c.as_slice.ensures.value ∙ c.in_ok-numbers.ensures in
    subst (AreAmong (g.P.Pick.test c.args.pick.now) c.self.inside.names m) (sym are) (keys_among c.self.inside.names c.self.invariant.held.naming m (g.P.Pick.test c.args.pick.now))

pub returns : goal.returns
returns g c =
    if_ok _ _ c.list.result
    (λ paths lists.
    gathered c.self.inside.names c.self.invariant.held.naming c.self.inside.nodes.metas c.self.invariant.held.metas_named (g.P.Pick.test c.args.pick.now) c.args.latest paths lists
    ∙ ap (λ o. filter (passes (g.P.Pick.test c.args.pick.now) (side_of c.args.latest o.metas)) (fin.keys (side_of c.args.latest o.metas))) c.self.view_is)
    c.list.ensures
