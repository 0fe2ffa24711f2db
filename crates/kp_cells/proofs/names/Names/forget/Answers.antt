use Rattle.std.proofs.Common.{◌≡◌, ℕ, List, ap, sym, ◌∙◌, Some, nat_eq}
use Rattle.std.specs.Prelude.{not, ◌&&◌}
use Rattle.std.specs.FinMap.{get}
use Rattle.kp_model.specs.State.{is_child}
use Rattle.kp_cells.specs.Naming.{Naming, numbers_in, texts_in}
use Rattle.kp_cells.specs.Kin.{is_kid}
use Rattle.kp_cells.proofs.Forgotten.{naming_forgot, below_forgot}
use Rattle.kp_cells.proofs.Kinned.{kin_left}
use Rattle.kp_cells.proofs.names.Names.forget.Goals as goal

pub invariant_of-self : goal.invariant_of-self
invariant_of-self c =
    let old : Naming = record { numbers = numbers_in c.self.inside.numbers.entries; texts = texts_in c.self.inside.texts.entries } in
    let new : Naming = record { numbers = numbers_in c.remove_number.new.numbers.entries; texts = texts_in c.remove_text.new.texts.entries } in
    let path = c.as_str.result.now in
    let is : get old.texts c.args.number ≡ Some path = sym c.in-Some.ensures.path ∙ ap Some (sym c.as_str.ensures.value) in
    let again : c.as_str-in-Some.result.now ≡ path = c.as_str-in-Some.ensures.value ∙ sym c.as_str.ensures.value in
    let kids : (p : List ℕ) (n : ℕ) → is_kid c.leave_parent.new.kin.entries p n ≡ (is_kid c.self.inside.kin.entries p n && not (is_child p path && nat_eq c.args.number n)) = λ p n.
    c.leave_parent.ensures.kids p n ∙ ap (λ q. is_kid c.self.inside.kin.entries p n && not (is_child p q && nat_eq c.args.number n)) again in
    record {
      naming = naming_forgot old new c.args.number c.self.invariant.naming path is c.remove_number.ensures c.remove_text.ensures.change;
      below = below_forgot old new c.args.number c.self.invariant.naming path is c.remove_number.ensures c.remove_text.ensures.change c.self.inside.next c.self.invariant.below;
      kin = kin_left c.self.inside.kin.entries c.leave_parent.new.kin.entries old.texts new.texts path c.args.number c.self.invariant.kin c.leave_parent.ensures.filled c.remove_text.ensures.change kids is;
    }
