use Rattle.std.proofs.Common.{ap, sym, ◌∙◌, subst}
use Rattle.std.specs.List.{filter}
use Rattle.std.specs.FinMap as fin
use Rattle.kp_model.specs.State.{is_child}
use Rattle.kp_cells.specs.Listed.{Test, side_of, passes, AreAmong}
use Rattle.kp_cells.proofs.Anyone.{if_ok}
use Rattle.kp_cells.proofs.Walked.{children_among}
use Rattle.kp_cells.proofs.Gathered.{gathered}
use Rattle.kp_cells.proofs.cells.Cells.children.Goals as goal

pub list-requires-clause-all : goal.list-requires-clause-all
list-requires-clause-all c =
    let m = side_of c.args.latest c.self.inside.nodes.metas in
    let test : Test = λ q _. is_child c.args.path.now q in
    subst (AreAmong test c.self.inside.names m) (sym c.as_slice.ensures.value) (children_among c.self.inside.names c.self.invariant.held.naming m c.args.path.now c.in_ok-numbers.numbers.items c.in_ok-numbers.ensures.value)

pub returns : goal.returns
returns c =
    let test : Test = λ q _. is_child c.args.path.now q in
    if_ok _ _ c.list.result
    (λ paths lists.
    gathered c.self.inside.names c.self.invariant.held.naming c.self.inside.nodes.metas c.self.invariant.held.metas_named test c.args.latest paths lists
    ∙ ap (λ o. filter (passes test (side_of c.args.latest o.metas)) (fin.keys (side_of c.args.latest o.metas))) c.self.view_is)
    c.list.ensures
