use Rattle.std.proofs.Common.{◌∙◌, ◌++◌, List, ℕ, ap}
use Rattle.kp_watch.specs.declared.kind.Kind.TheVariants as kind
use Rattle.kp_watch.specs.Watching.{watching, others}
use Rattle.kp_watch.proofs.Fires.{child_watches_stay}
use Rattle.kp_watch.proofs.watches.Watches.hears_deleted.Goals as goal

pub returns : goal.returns
returns c left h =
    let r = c.in_ok-first.ensures left h in
    let s = c.in_ok-second.ensures _ r.1 in
    let told : List ℕ = watching left c.args.path.now kind.Data in
    let child : List ℕ = watching left c.args.path.now kind.Child in
    let first = c.deref.ensures.value ∙ r.0 in
    let second = c.deref-2.ensures.value ∙ s.0 ∙ child_watches_stay c.args.path.now left in
    (c.in_ok-extend_from_slice.ensures.items ∙ ap (λ l. c.in_ok-first.first.items ++ l) (c.deref-3.ensures.value ∙ c.in_ok-rest.ensures ∙ (λ i. others (first i) (second i))) ∙ ap (λ l. l ++ others told child) r.0, s.1)
