use Rattle.std.proofs.lemmas.Grind.{common_steps}
use Rattle.std.proofs.Common.{rules, arith, ap, sym, ◌∙◌}
use Rattle.std.specs.Option.{option_copied}
use Rattle.std.specs.FinMap as map
use Rattle.kp_model.specs.State.{meta_at}
use Rattle.kp_act.specs.Looks.{room_fails}
use Rattle.kp_act.proofs.Seen.{meta_none, meta_absent, place_no_parent, place_under, room_free}
use Rattle.kp_act.proofs.checks.may_create_under.Goals as goal

pub returns-in-None : goal.returns-in-None
returns-in-None g c = place_no_parent (g.L.Look.nodes c.args.look.now) c.args.ids.now c.args.path.now c.requires.child (sym (ap (map.get (g.L.Look.nodes c.args.look.now)) c.requires.parent) ∙ meta_none (g.L.Look.nodes c.args.look.now) c.args.up.now (sym (ap option_copied c.in-None.is) ∙ c.meta.ensures))

pub returns-in-Some-room_error : goal.returns-in-Some-room_error
returns-in-Some-room_error g c =
    let e =
    place_under (g.L.Look.nodes c.args.look.now) c.args.ids.now c.args.path.now c.args.up.now c.in-Some.meta.now c.requires.parent c.requires.child (sym (ap option_copied c.in-Some.is) ∙ c.meta.ensures)
    ∙ sym (λ i. room_fails (c.gives.ensures i) c.in-Some.meta.now.owner (c.is_there.ensures i))
    ∙ sym c.room_error.ensures
    ∙ c.in-Some-room_error.is in
    first_of (search (rules, e), grind (arith, common_steps, e))

pub returns-in-None-room_error : goal.returns-in-None-room_error
returns-in-None-room_error g c = record {
  passes = place_under (g.L.Look.nodes c.args.look.now) c.args.ids.now c.args.path.now c.args.up.now c.in-Some.meta.now c.requires.parent c.requires.child (sym (ap option_copied c.in-Some.is) ∙ c.meta.ensures)
      ∙ sym (λ i. room_fails (c.gives.ensures i) c.in-Some.meta.now.owner (c.is_there.ensures i))
      ∙ sym c.room_error.ensures
      ∙ c.in-None-room_error.is;
  parent = sym (ap (meta_at (g.L.Look.nodes c.args.look.now)) c.requires.parent) ∙ sym (sym (ap option_copied c.in-Some.is) ∙ c.meta.ensures);
  free = meta_absent (g.L.Look.nodes c.args.look.now) c.args.path.now (sym c.is_there.ensures ∙ room_free c.gives.result c.in-Some.meta.now.owner c.is_there.result (sym c.room_error.ensures ∙ c.in-None-room_error.is));
  child = c.requires.child;
}
