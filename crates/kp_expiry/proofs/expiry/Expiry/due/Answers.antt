use Rattle.std.proofs.Common.{◌≡◌, ◌∙◌, ap, subst, map, ℕ}
use Rattle.std.specs.List.{filter}
use Rattle.std.specs.List.Sorted.{IsPermutation}
use Rattle.std.proofs.lemmas.Result.{IfOk-weaker}
use Rattle.kp_expiry.specs.Nodes.{tags}
use Rattle.kp_expiry.specs.Walk.{has_come}
use Rattle.kp_expiry.specs.Due.{ListsDue, due}
use Rattle.kp_expiry.proofs.Listed.{lists_due}
use Rattle.kp_expiry.proofs.OneList.{only_list}
use Rattle.kp_expiry.proofs.expiry.Expiry.due.Goals as goal

pub returns-clause-listed : goal.returns-clause-listed
returns-clause-listed c =
    IfOk-weaker c.sessions.result (λ s. s.items ≡ map (λ (p : ℕ × ℕ). p.1) c.deref-2.result.now) (λ s. ListsDue c.args.self.now c.args.now s.items)
    (λ s e.
    lists_due c.self.inside.known.entries (tags c.self.inside.slots.items) c.self.invariant.0 c.args.now c.args.self.now c.in_order-sorted.result.items s.items
    c.self.view_is
    (subst (λ l. IsPermutation l c.in_order-sorted.result.items) (c.in_ok-found.ensures ∙ ap (λ l. filter (has_come c.args.now) (tags l)) c.deref.ensures.value) c.in_order-sorted.ensures.moved)
    c.in_order-sorted.ensures.sorted
    (e ∙ ap (map (λ (p : ℕ × ℕ). p.1)) c.deref-2.ensures.value))
    c.sessions.ensures

pub returns-clause-exact : goal.returns-clause-exact
returns-clause-exact c =
    IfOk-weaker c.sessions.result (λ s. ListsDue c.args.self.now c.args.now s.items) (λ s. s.items ≡ due c.args.self.now c.args.now)
    (λ s. only_list c.args.self.now c.args.now s.items)
    (returns-clause-listed c)
