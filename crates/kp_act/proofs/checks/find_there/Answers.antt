use Rattle.std.proofs.lemmas.Grind.{common_steps}
use Rattle.std.proofs.Common.{rules, arith, ap, sym, ◌∙◌}
use Rattle.std.specs.Option.{option_copied}
use Rattle.kp_act.specs.Looks.{change_fails}
use Rattle.kp_act.proofs.Seen.{meta_none, find_none, find_there}
use Rattle.kp_act.proofs.checks.find_there.Goals as goal

pub returns-in-None : goal.returns-in-None
returns-in-None g c = find_none (g.L.Look.nodes c.args.look.now) c.args.ids.now c.args.path.now c.args.perm c.args.version c.requires (meta_none (g.L.Look.nodes c.args.look.now) c.args.path.now (sym (ap option_copied c.in-None.is) ∙ c.meta.ensures))

pub returns-in-Some-change_error : goal.returns-in-Some-change_error
returns-in-Some-change_error g c =
    let e =
    find_there (g.L.Look.nodes c.args.look.now) c.args.ids.now c.args.path.now c.args.perm c.args.version c.in-Some.meta.now c.requires (sym (ap option_copied c.in-Some.is) ∙ c.meta.ensures)
    ∙ sym (ap (λ b. change_fails b c.args.version c.in-Some.meta.now.version) c.gives.ensures)
    ∙ sym c.change_error.ensures
    ∙ c.in-Some-change_error.is in
    first_of (search (rules, e), grind (arith, common_steps, e))

pub returns-in-None-change_error : goal.returns-in-None-change_error
returns-in-None-change_error g c = record {
  passes = find_there (g.L.Look.nodes c.args.look.now) c.args.ids.now c.args.path.now c.args.perm c.args.version c.in-Some.meta.now c.requires (sym (ap option_copied c.in-Some.is) ∙ c.meta.ensures)
      ∙ sym (ap (λ b. change_fails b c.args.version c.in-Some.meta.now.version) c.gives.ensures)
      ∙ sym c.change_error.ensures
      ∙ c.in-None-change_error.is;
  there = sym (sym (ap option_copied c.in-Some.is) ∙ c.meta.ensures);
  well_formed = c.requires;
}
