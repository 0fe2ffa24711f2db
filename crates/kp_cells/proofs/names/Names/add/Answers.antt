use Rattle.std.proofs.Common.{◌≡◌, ℕ, List, ap, sym, ◌∙◌, subst, None, Some, nat_eq, cond, true, false}
use Rattle.std.specs.Prelude.{is_err}
use Rattle.std.specs.Str.{bytes_eq}
use Rattle.std.specs.FinMap.{get}
use Rattle.kp_cells.specs.Naming.{Naming, numbers_in, texts_in}
use Rattle.kp_cells.specs.Kin.{AreInStep}
use Rattle.kp_cells.proofs.Named.{fresh_text, is_error, not_err, naming_grown, below_grown}
use Rattle.kp_cells.proofs.Kinned.{kin_again, kin_joined}
use Rattle.kp_cells.proofs.names.Names.add.Goals as goal

pub invariant_of-self-then-is_err : goal.invariant_of-self-then-is_err
invariant_of-self-then-is_err c =
    let old : Naming = record { numbers = numbers_in c.self.inside.numbers.entries; texts = texts_in c.self.inside.texts.entries } in
    let failed : is_err c.add_number.result ≡ true = sym c.is_err.ensures.value ∙ c.if-is_err.true in
    let numbers : numbers_in c.add_number.new.numbers.entries ≡ numbers_in c.self.inside.numbers.entries = is_error _ failed c.add_number.ensures.err in
    let same : record { numbers = numbers_in c.add_number.new.numbers.entries; texts = texts_in c.make_room.new.texts.entries } ≡ old = λ i. record { numbers = numbers i; texts = c.make_room.ensures.same i } in
    subst (AreInStep c.self.inside.next c.leave_parent.new.kin.entries) (sym same) (record {
      naming = c.self.invariant.naming;
      below = c.self.invariant.below;
      kin = kin_again c.self.inside.kin.entries c.join_parent.new.kin.entries c.leave_parent.new.kin.entries old.texts c.args.path.now c.self.inside.next c.self.invariant.kin
          c.join_parent.ensures.filled c.leave_parent.ensures.filled c.in_ok-join_parent.ensures.ok c.leave_parent.ensures.kids (fresh_text old c.self.inside.next c.self.invariant.naming c.self.invariant.below);
    })

pub invariant_of-self-2 : goal.invariant_of-self-2
invariant_of-self-2 c =
    let old : Naming = record { numbers = numbers_in c.self.inside.numbers.entries; texts = texts_in c.self.inside.texts.entries } in
    let new : Naming = record { numbers = numbers_in c.add_number.new.numbers.entries; texts = texts_in c.add_text.new.texts.entries } in
    let path = c.args.path.now in
    let number = c.self.inside.next in
    let added : is_err c.add_number.result ≡ false = sym c.is_err.ensures.value ∙ c.if-is_err.false in
    let numbers : (p : List ℕ) → get new.numbers p ≡ cond (bytes_eq path p) (Some number) (get old.numbers p) = λ p.
    not_err _ added c.add_number.ensures.ok p ∙ ap (λ q. cond (bytes_eq q p) (Some number) (get old.numbers p)) c.in_ok-key.ensures.ok in
    let texts : (n : ℕ) → get new.texts n ≡ cond (nat_eq number n) (Some path) (get old.texts n) = λ n.
    c.add_text.ensures n ∙ ap (λ q. cond (nat_eq number n) (Some q) (get (texts_in c.make_room.new.texts.entries) n)) c.in_ok-text.ensures.ok
    ∙ ap (λ t. cond (nat_eq number n) (Some path) (get t n)) c.make_room.ensures.same in
    let free : get old.numbers path ≡ None = ap (λ n. get n.numbers path) c.self.view_is ∙ c.requires in
    record {
      naming = naming_grown old new path number numbers texts free c.self.invariant.naming c.self.invariant.below;
      below = below_grown old new path number numbers texts free c.self.invariant.naming c.self.invariant.below;
      kin = kin_joined c.self.inside.kin.entries c.join_parent.new.kin.entries old.texts new.texts path number c.self.invariant.kin c.join_parent.ensures.filled texts c.in_ok-join_parent.ensures.ok (fresh_text old number c.self.invariant.naming c.self.invariant.below);
    }
