use Rattle.std.proofs.Common.{◌≡◌, ℕ, nat_eq, Some, ap, sym, ◌∙◌, subst}
use Rattle.std.specs.Prelude.{◌==◌}
use Rattle.std.specs.List.{filter}
use Rattle.std.specs.FinMap as fin
use Rattle.kp_layers.specs.Grouped.{is_in}
use Rattle.kp_cells.specs.Listed.{Test, side_of, passes, AreAmong}
use Rattle.kp_cells.specs.Parts.{FitTogether}
use Rattle.kp_cells.specs.Sides.{parts_at}
use Rattle.kp_cells.proofs.Anyone.{if_ok}
use Rattle.kp_cells.proofs.Gathered.{gathered, owned_among}
use Rattle.kp_cells.proofs.cells.Cells.owned_by.Goals as goal

pub list-requires-clause-all : goal.list-requires-clause-all
list-requires-clause-all c =
    let i = c.self.inside in
    let h = c.self.invariant.held in
    let test : Test = λ _ m. m.owner == c.args.session in
    let are : c.as_slice.result.now ≡ filter (is_in nat_eq (λ (owner : ℕ). Some owner) (side_of c.args.latest i.nodes.owners) c.args.session) (fin.keys (side_of c.args.latest i.nodes.owners)) = c.as_slice.ensures.value ∙ c.in_ok-numbers.ensures in
    let fits = subst (λ o. FitTogether (parts_at c.args.latest o)) (sym c.self.view_is) c.requires.fits in
    subst (AreAmong test i.names (side_of c.args.latest i.nodes.metas)) (sym are)
    (owned_among i.names h.naming i.nodes.metas i.nodes.contents i.nodes.acls i.nodes.children i.nodes.owners i.sessions i.next i.applied h.metas_named h.owners_named c.args.latest fits c.args.session c.requires.session)

pub returns : goal.returns
returns c =
    let test : Test = λ _ m. m.owner == c.args.session in
    if_ok _ _ c.list.result
    (λ paths lists.
    gathered c.self.inside.names c.self.invariant.held.naming c.self.inside.nodes.metas c.self.invariant.held.metas_named test c.args.latest paths lists
    ∙ ap (λ o. filter (passes test (side_of c.args.latest o.metas)) (fin.keys (side_of c.args.latest o.metas))) c.self.view_is)
    c.list.ensures
