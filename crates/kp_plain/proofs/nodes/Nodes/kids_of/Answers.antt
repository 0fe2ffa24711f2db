use Rattle.std.proofs.Common.{ap, sym, subst, ◌∙◌}
use Rattle.std.specs.Prelude.{min}
use Rattle.std.specs.Option.{option_copied}
use Rattle.kp_plain.specs.Beside.{AreOrdered, child_count}
use Rattle.kp_plain.proofs.Above.{kids_there, kids_new}
use Rattle.kp_plain.proofs.nodes.Nodes.kids_of.Goals as goal

pub kids_of_new-requires : goal.kids_of_new-requires
kids_of_new-requires c = subst AreOrdered (sym c.as_slice.ensures.value) c.self.invariant.ordered

pub returns-in-Some : goal.returns-in-Some
returns-in-Some c = kids_there c.args.self.now c.args.path.now c.in-Some.meta.now (sym (ap option_copied c.in-Some.is) ∙ c.meta.ensures)

pub returns-in-None : goal.returns-in-None
returns-in-None c =
    c.kids_of_new.ensures
    ∙ ap (λ xs. min (child_count xs c.args.path.now) 2147483647) c.as_slice.ensures.value
    ∙ kids_new c.self.inside.items.items c.args.self.now c.args.path.now c.self.invariant.ordered c.self.view_is
