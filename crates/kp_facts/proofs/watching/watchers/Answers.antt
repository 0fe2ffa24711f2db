use Rattle.std.proofs.Common.{◌≡◌, ◌++◌, map, ap, ◌∙◌}
use Rattle.kp_facts.proofs.Watches.{watcher_of, watchers_are}
use Rattle.kp_facts.proofs.watching.watchers.Goals as goal

pub loop-conn-init : goal.loop-conn-init
loop-conn-init c =
    let m = c.args.seats.now.seats in
    let same : c.into_iter-conn-iterator.result.rest.items ≡ c.in_ok-items.items.items = c.into_iter-conn-iterator.ensures.into_iter_gives.0 in
    ap (λ l. l ++ map (watcher_of (λ v. v.items) m) c.into_iter-conn-iterator.result.rest.items) c.new-list.ensures.items
    ∙ ap (map (watcher_of (λ v. v.items) m)) same
    ∙ watchers_are (λ v. v.items) m c.args.watches.now c.in_ok-items.items.items c.in_ok-items.ensures
