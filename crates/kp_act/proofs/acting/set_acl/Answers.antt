use Rattle.std.proofs.Common.{ap, sym, subst, ◌∙◌}
use Rattle.std.specs.FinMap as map
use Rattle.kp_model.specs.Path.{is_well_formed}
use Rattle.kp_model.specs.Step.{unless, owner_fails, set_acl}
use Rattle.kp_act.specs.Effects.{IsAct, DoesOn}
use Rattle.kp_act.proofs.Acts.{if_ok_then, relisted_misnamed, relisted_unlisted, relisted_listed}
use Rattle.kp_act.proofs.acting.set_acl.Goals as goal

pub returns-then-not-formed : goal.returns-then-not-formed
returns-then-not-formed g c = λ s. subst (IsAct c.args.path.now (record s { nodes = g.L.Look.nodes c.args.look.now }) _) (sym c.answered.ensures) (relisted_misnamed (record s { nodes = g.L.Look.nodes c.args.look.now }) c.args.ids.now c.args.path.now c.args.acl.now c.args.version (ap is_well_formed (sym c.as_str.ensures) ∙ sym c.is_path-formed.ensures ∙ c.if-not-formed.true))

pub returns-in-None : goal.returns-in-None
returns-in-None g c = λ s. subst (IsAct c.args.path.now (record s { nodes = g.L.Look.nodes c.args.look.now }) _) (sym c.answered-in-None.ensures) (relisted_unlisted (record s { nodes = g.L.Look.nodes c.args.look.now }) c.args.ids.now c.args.path.now c.args.acl.now c.args.version (ap is_well_formed (sym c.as_str.ensures) ∙ sym c.is_path-formed.ensures ∙ c.if-not-formed.false) (sym c.in-None.is ∙ c.in_ok-list_to_keep.ensures))

pub returns-in-Some : goal.returns-in-Some
returns-in-Some g c = if_ok_then (DoesOn c.args.path.now (g.L.Look.nodes c.args.look.now) (λ s. unless (owner_fails c.args.ids.now c.args.version (map.get s.nodes c.args.path.now)) s (set_acl s c.args.path.now c.in-Some.kept))) _ _ c.keep_list.ensures (λ a h s. relisted_listed (record s { nodes = g.L.Look.nodes c.args.look.now }) c.args.ids.now c.args.path.now c.args.acl.now c.args.version c.in-Some.kept a (ap is_well_formed (sym c.as_str.ensures) ∙ sym c.is_path-formed.ensures ∙ c.if-not-formed.false) (sym c.in-Some.is ∙ c.in_ok-list_to_keep.ensures) (h s))
