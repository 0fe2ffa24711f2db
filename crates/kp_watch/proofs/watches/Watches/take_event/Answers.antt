use Rattle.std.proofs.Common.{◌∙◌, sym, ap, not}
use Rattle.std.specs.List.{filter}
use Rattle.kp_watch.specs.declared.kind.Kind.TheVariants as kind
use Rattle.kp_watch.specs.Watching.{is_at, unfired}
use Rattle.kp_watch.proofs.watches.Watches.take_event.Goals as goal

pub returns-in-Deleted : goal.returns-in-Deleted
returns-in-Deleted c =
    c.clear-in-Deleted-2.ensures
    ∙ (λ i. filter (λ w. not (is_at (c.as_str-in-Deleted-2.ensures i) kind.Child w)) (c.clear-in-Deleted.ensures i))
    ∙ (λ i. filter (λ w. not (is_at c.in-Deleted.path kind.Child w)) (filter (λ w. not (is_at (c.as_str-in-Deleted.ensures i) kind.Data w)) c.args.self.now))
    ∙ ap (unfired c.args.self.now) (sym c.in-Deleted.is)
