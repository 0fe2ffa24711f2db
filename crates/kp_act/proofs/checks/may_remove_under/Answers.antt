use Rattle.std.proofs.lemmas.Grind.{common_steps}
use Rattle.std.proofs.Common.{rules, arith, ap, sym, ◌∙◌}
use Rattle.std.specs.Option.{option_copied}
use Rattle.kp_model.specs.State.{meta_at}
use Rattle.kp_act.specs.Looks.{has_right, leave_fails}
use Rattle.kp_act.proofs.Seen.{meta_none, delete_none, delete_there}
use Rattle.kp_act.proofs.checks.may_remove_under.Goals as goal

pub returns-in-None : goal.returns-in-None
returns-in-None g c = delete_none (g.L.Look.nodes c.args.look.now) c.args.ids.now c.args.path.now c.args.version c.requires.child (meta_none (g.L.Look.nodes c.args.look.now) c.args.path.now (sym (ap option_copied c.in-None.is) ∙ c.meta.ensures))

pub returns-in-None-meta : goal.returns-in-None-meta
returns-in-None-meta g c =
    delete_there (g.L.Look.nodes c.args.look.now) c.args.ids.now c.args.path.now c.args.version c.args.up.now c.in-Some.meta.now c.requires.parent c.requires.child (sym (ap option_copied c.in-Some.is) ∙ c.meta.ensures)
    ∙ ap (λ o. leave_fails (has_right o c.args.ids.now 8) c.args.version c.in-Some.meta.now.version c.in-Some.meta.now.kids) (meta_none (g.L.Look.nodes c.args.look.now) c.args.up.now (sym (ap option_copied c.in-None-meta.is) ∙ c.meta-in-Some.ensures))

pub returns-in-Some-leave_error : goal.returns-in-Some-leave_error
returns-in-Some-leave_error g c =
    let e =
    delete_there (g.L.Look.nodes c.args.look.now) c.args.ids.now c.args.path.now c.args.version c.args.up.now c.in-Some.meta.now c.requires.parent c.requires.child (sym (ap option_copied c.in-Some.is) ∙ c.meta.ensures)
    ∙ sym (ap (λ b. leave_fails b c.args.version c.in-Some.meta.now.version c.in-Some.meta.now.kids) c.gives.ensures)
    ∙ sym c.leave_error.ensures
    ∙ c.in-Some-leave_error.is in
    first_of (search (rules, e), grind (arith, common_steps, e))

pub returns-in-None-leave_error : goal.returns-in-None-leave_error
returns-in-None-leave_error g c = record {
  passes = delete_there (g.L.Look.nodes c.args.look.now) c.args.ids.now c.args.path.now c.args.version c.args.up.now c.in-Some.meta.now c.requires.parent c.requires.child (sym (ap option_copied c.in-Some.is) ∙ c.meta.ensures)
      ∙ sym (ap (λ b. leave_fails b c.args.version c.in-Some.meta.now.version c.in-Some.meta.now.kids) c.gives.ensures)
      ∙ sym c.leave_error.ensures
      ∙ c.in-None-leave_error.is;
  parent = sym (ap (meta_at (g.L.Look.nodes c.args.look.now)) c.requires.parent) ∙ sym (sym (ap option_copied c.in-Some-meta.is) ∙ c.meta-in-Some.ensures);
  there = sym (sym (ap option_copied c.in-Some.is) ∙ c.meta.ensures);
  child = c.requires.child;
}
