use Rattle.std.proofs.Common.{◌≡◌, ℕ, List, subst, sym, ap, ◌∙◌, ◌++◌, [], ◌∷◌, true, cond}
use Rattle.std.specs.Prelude.{nat_lt, nat_le}
use Rattle.std.specs.List.{list_all}
use Rattle.std.specs.HashSet.{contains}
use Rattle.kp_model.specs.declared.session.Origin.{Origin}
use Rattle.kp_snapshot.specs.declared.known.Holder.{Holder}
use Rattle.kp_snapshot.specs.Knowing.{HasEach, Sessions, same_holder}
use Rattle.kp_snapshot.specs.Ups.{AreRising}
use Rattle.kp_snapshot.proofs.Ordered.{right}
use Rattle.kp_snapshot.proofs.Numbers.{rising_more, has_more}
use Rattle.kp_snapshot.proofs.known.Known.add.Goals as goal

pub invariant_of-self-2 : goal.invariant_of-self-2
invariant_of-self-2 c =
    let ids = c.self.inside.ids.items in
    let same : ids ≡ c.args.self.now.ids = ap (λ (v : Sessions). v.ids) c.self.view_is in
    let above = right (nat_lt c.args.id c.args.self.now.next) _ (right (nat_le 1 c.args.id) _ c.requires) in
    let all : list_all (λ b. nat_lt b c.args.id) ids ≡ true = subst (λ (xs : List ℕ). list_all (λ b. nat_lt b c.args.id) xs ≡ true) (sym same) above in
    let up = rising_more ids c.args.id c.self.invariant.0 all in
    let more = has_more c.self.inside.held c.insert.new.self c.self.inside.holders.items c.args.holder c.self.invariant.1 (subst (λ (h : Holder). (q : Holder) → contains same_holder c.insert.new.self q ≡ cond (same_holder h q) true (contains same_holder c.self.inside.held q)) c.name_of.ensures c.in_ok-insert.ensures.updates.0) in (
      subst AreRising (ap (λ (xs : List ℕ). xs ++ c.args.id ∷ []) (sym c.reserve.ensures.items) ∙ sym c.push_reserved.ensures.items) up,
      subst (HasEach c.insert.new.self) (ap (λ (os : List Origin). os ++ c.args.holder ∷ []) (sym c.reserve-2.ensures.items) ∙ sym c.push_reserved-2.ensures.items) more,
    )
