use Rattle.std.proofs.Common.{◌-◌, length, min, ap, sym, ◌∙◌}
use Rattle.kp_model.specs.Path.{parent}
use Rattle.kp_model.specs.State.{children}
use Rattle.kp_act.proofs.Acts.{if_ok, deleted_does, shown_kids}
use Rattle.kp_act.proofs.acting.remove.Goals as goal

pub kids_left-requires-clause-shown : goal.kids_left-requires-clause-shown
kids_left-requires-clause-shown g c = shown_kids (g.L.Look.nodes c.args.look.now) (parent c.args.path.now) c.args.found.up c.requires.up ∙ ap (λ p. min (length (children (g.L.Look.nodes c.args.look.now) (parent p))) 2147483647) (sym c.as_str.ensures)

pub returns-in-Ok : goal.returns-in-Ok
returns-in-Ok g c = if_ok _ _ _ c.gone.ensures (λ s. deleted_does (record s { nodes = g.L.Look.nodes c.args.look.now }) c.args.stamp.index c.args.path.now c.args.found c.in-Ok.kids c.requires.places c.requires.up c.requires.there c.requires.child (c.in-Ok.ensures ∙ ap (λ p. min (length (children (g.L.Look.nodes c.args.look.now) (parent p)) - 1) 2147483647) c.as_str.ensures))
