use Rattle.std.proofs.Common.{◌≡◌, ℕ, sym, ap, ◌∙◌}
use Rattle.std.specs.Prelude.{map}
use Rattle.std.specs.FinMap.{keys}
use Rattle.std.specs.Ordering.{nat_cmp}
use Rattle.kp_model.specs.declared.session.Session.{Session}
use Rattle.kp_act.proofs.Acts.{if_ok_then}
use Rattle.kp_plain.proofs.SortedMap.{keys_sorted}
use Rattle.kp_plain.proofs.sessions.Sessions.numbers.Goals as goal

pub returns : goal.returns
returns c = if_ok_then (λ v. v.items ≡ map (λ (e : ℕ × Session). e.0) c.as_slice.result.now) (λ v. v.items ≡ keys c.args.self.now) c.numbers_of.result c.numbers_of.ensures (λ v h. h
    ∙ ap (map (λ (e : ℕ × Session). e.0)) c.as_slice.ensures.value
    ∙ sym (keys_sorted nat_cmp c.self.inside.items.items c.self.invariant)
    ∙ ap keys c.self.view_is)
