use Rattle.std.proofs.Common.{sym, ap, ◌∙◌}
use Rattle.std.specs.List.{list_any}
use Rattle.std.specs.Ordering.{nat_cmp}
use Rattle.kp_model.specs.State.{is_held, same_origin}
use Rattle.kp_model.specs.declared.session.Session.{Session}
use Rattle.kp_plain.specs.Outcomes.{has_holder}
use Rattle.kp_plain.proofs.SortedMap.{any_value}
use Rattle.kp_plain.proofs.sessions.Sessions.is_held.Goals as goal

pub returns : goal.returns
unfolding is_held
returns c = c.is_holder.ensures ∙ ap (list_any (has_holder c.args.origin.now)) c.as_slice.ensures.value
    ∙ sym (any_value nat_cmp (λ (x : Session). same_origin x.holder c.args.origin.now) c.self.inside.items.items c.self.invariant)
    ∙ ap (λ m. is_held m c.args.origin.now) c.self.view_is
