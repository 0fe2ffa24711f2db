use Rattle.std.proofs.Common.{◌≡◌, ◌++◌, map, ap, ◌∙◌}
use Rattle.kp_facts.proofs.Watches.{watched_of, watched_are}
use Rattle.kp_facts.proofs.watching.watched.Goals as goal

pub loop-path-init : goal.loop-path-init
loop-path-init c =
    let m = c.args.seats.now.seats in
    let same : c.into_iter-path-iterator.result.rest.items ≡ c.in_ok-items.items.items = c.into_iter-path-iterator.ensures.into_iter_gives.0 in
    ap (λ l. l ++ map (watched_of (λ v. v.items) m) c.into_iter-path-iterator.result.rest.items) c.new-list.ensures.items
    ∙ ap (map (watched_of (λ v. v.items) m)) same
    ∙ watched_are (λ v. v.items) m c.args.watches.now c.in_ok-items.items.items c.in_ok-items.ensures
