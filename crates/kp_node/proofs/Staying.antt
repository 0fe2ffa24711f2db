-- What holds of each watch holds of each that is left behind events.
use Rattle.std.proofs.Common.{Bool, true, false, cond, not, List, [], ◌∷◌}
use Rattle.std.specs.List.{filter, AllByRecursion}
use Rattle.kp_model.specs.declared.reply.Event.{Event}
use Rattle.kp_model.specs.declared.reply.Event.TheVariants as event
use Rattle.kp_watch.specs.declared.kind.Kind.TheVariants as kind
use Rattle.kp_watch.specs.declared.watch.Watch.{Watch}
use Rattle.kp_watch.specs.Watching.{is_at, unfired, fired}

module _ (P : Watch → Type 0) where
  all_filter : (f : Watch → Bool) (ws : List Watch) → AllByRecursion P ws → AllByRecursion P (filter f ws)
  all_filter f [] h = tt
  all_filter f (w ∷ ws) h = at (f w) (all_filter f ws h.1) where
    at : (b : Bool) → AllByRecursion P (filter f ws) → AllByRecursion P (cond b (w ∷ filter f ws) (filter f ws))
    at true rest = (h.0, rest)
    at false rest = rest

  all_unfired : (ws : List Watch) (e : Event) → AllByRecursion P ws → AllByRecursion P (unfired ws e)
  all_unfired ws (event.Created p) h = all_filter (λ w. not (is_at p kind.Data w)) ws h
  all_unfired ws (event.DataChanged p) h = all_filter (λ w. not (is_at p kind.Data w)) ws h
  all_unfired ws (event.Deleted p) h = all_filter (λ w. not (is_at p kind.Child w)) (filter (λ w. not (is_at p kind.Data w)) ws) (all_filter (λ w. not (is_at p kind.Data w)) ws h)
  all_unfired ws (event.ChildrenChanged p) h = all_filter (λ w. not (is_at p kind.Child w)) ws h

  pub left_all : (ws : List Watch) (es : List Event) → AllByRecursion P ws → AllByRecursion P (fired ws es).left
  unfolding fired
  left_all ws [] h = h
  left_all ws (e ∷ es) h = left_all (unfired ws e) es (all_unfired ws e h)
