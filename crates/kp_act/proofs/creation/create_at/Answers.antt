use Rattle.std.proofs.Common.{◌&&◌, ap, sym, subst, ◌∙◌}
use Rattle.std.specs.Prelude.{nat_le, IfOk}
use Rattle.kp_model.specs.Path.{is_well_formed}
use Rattle.kp_model.specs.Step.{unless, place_fails, created, owner_of}
use Rattle.kp_act.specs.Effects.{IsAct, DoesOn}
use Rattle.kp_act.proofs.Acts.{if_ok_then, made_misnamed, made_unlisted, made_listed}
use Rattle.kp_act.proofs.creation.create_at.Goals as goal

pub returns-then-not-creation : goal.returns-then-not-creation
returns-then-not-creation g c = λ s. subst (IsAct c.args.path.now (record s { nodes = g.L.Look.nodes c.args.look.now }) _) (sym c.answered.ensures) (made_misnamed (record s { nodes = g.L.Look.nodes c.args.look.now }) c.args.session c.args.ids.now c.args.stamp.index c.args.stamp.time c.args.path.now c.args.bytes.now c.args.acl.now c.args.flags c.args.stat (ap (λ p. is_well_formed p && nat_le c.args.flags 3) (sym c.as_str.ensures) ∙ sym c.is_creation-creation.ensures ∙ c.if-not-creation.true))

pub returns-in-None : goal.returns-in-None
returns-in-None g c = λ s. subst (IsAct c.args.path.now (record s { nodes = g.L.Look.nodes c.args.look.now }) _) (sym c.answered-in-None.ensures) (made_unlisted (record s { nodes = g.L.Look.nodes c.args.look.now }) c.args.session c.args.ids.now c.args.stamp.index c.args.stamp.time c.args.path.now c.args.bytes.now c.args.acl.now c.args.flags c.args.stat (ap (λ p. is_well_formed p && nat_le c.args.flags 3) (sym c.as_str.ensures) ∙ sym c.is_creation-creation.ensures ∙ c.if-not-creation.false) (sym c.in-None.is ∙ c.in_ok-list_to_keep.ensures))

pub returns-in-Some : goal.returns-in-Some
returns-in-Some g c = if_ok_then (DoesOn c.args.path.now (g.L.Look.nodes c.args.look.now) (λ s. unless (place_fails s.nodes c.args.ids.now c.args.path.now) s (created s c.args.stamp.index c.args.stamp.time c.args.path.now c.args.bytes.now c.in-Some.kept (owner_of c.args.session c.args.flags) c.args.stat))) _ _
    (subst (λ o. IfOk c.place.result (DoesOn c.args.path.now (g.L.Look.nodes c.args.look.now) (λ s. unless (place_fails s.nodes c.args.ids.now c.args.path.now) s (created s c.args.stamp.index c.args.stamp.time c.args.path.now c.args.bytes.now c.in-Some.kept o c.args.stat)))) c.owner.ensures c.place.ensures)
    (λ a h s. made_listed (record s { nodes = g.L.Look.nodes c.args.look.now }) c.args.session c.args.ids.now c.args.stamp.index c.args.stamp.time c.args.path.now c.args.bytes.now c.args.acl.now c.args.flags c.args.stat c.in-Some.kept a (ap (λ p. is_well_formed p && nat_le c.args.flags 3) (sym c.as_str.ensures) ∙ sym c.is_creation-creation.ensures ∙ c.if-not-creation.false) (sym c.in-Some.is ∙ c.in_ok-list_to_keep.ensures) (h s))
