use Rattle.std.proofs.Common.{ℕ, ◌+◌, ◌∙◌, ◌∷◌, List, drop, sym, ap}
use Rattle.std.proofs.lemmas.List.{drop_more, drop_all}
use Rattle.kp_model.specs.State.{Nodes, meta_at}
use Rattle.kp_watch.specs.Watching.{owed, set_one, set_line, shows, Firing}
use Rattle.kp_watch.proofs.Grows.{grown_more, set_line_next, set_line_none}
use Rattle.kp_watch.proofs.watches.Watches.set_line.Goals as goal

pub loop-path-preserved : goal.loop-path-preserved
loop-path-preserved g c =
    let nodes : Nodes = (g.V.View.state c.args.view.now).nodes in
    let p : List ℕ = c.path-item.result in
    let rest : List (List ℕ) = drop (c.loop-path.path-index + 1) c.args.paths.now in
    let here : Firing = shows c.args.conn c.loop-path.events c.loop-path.self in (
      ap (set_line nodes c.args.conn c.args.since c.args.line rest)
          (c.in_ok-set_one.ensures.ok ∙ ap (λ o. set_one c.args.conn c.args.line p o here) (c.in_ok-owed.ensures ∙ ap (owed c.args.line c.args.since p) (c.meta.ensures ∙ ap (meta_at nodes) c.as_str.ensures)))
          ∙ sym (set_line_next nodes c.args.conn c.args.since c.args.line p rest here)
          ∙ ap (λ l. set_line nodes c.args.conn c.args.since c.args.line l here) (sym (drop_more c.args.paths.now c.loop-path.path-index p c.loop-path-test.true ∙ ap (λ x. x ∷ rest) (sym c.path-item.is)))
          ∙ c.loop-path.invariant.0,
      grown_more c.args.self.now c.loop-path.self c.set_one.new.self c.loop-path.invariant.1 c.set_one.ensures.grown,
    )

pub returns-clause-ok : goal.returns-clause-ok
returns-clause-ok g c =
    let nodes : Nodes = (g.V.View.state c.args.view.now).nodes in
    let here : Firing = shows c.args.conn c.loop-path.events c.loop-path.self in
    sym (set_line_none nodes c.args.conn c.args.since c.args.line here)
    ∙ ap (λ l. set_line nodes c.args.conn c.args.since c.args.line l here) (sym (drop_all c.loop-path.path-index c.args.paths.now c.loop-path-test.false))
    ∙ c.loop-path.invariant.0
