use Rattle.std.proofs.Common.{◌+◌, ◌∙◌, ◌∷◌, List, drop, sym, ap}
use Rattle.std.proofs.lemmas.List.{drop_more, drop_all}
use Rattle.kp_model.specs.declared.reply.Event.{Event}
use Rattle.kp_watch.specs.Watching.{fired}
use Rattle.kp_watch.proofs.Fires.{fired_next, none_left}
use Rattle.kp_watch.proofs.watches.Watches.take_all.Goals as goal

pub loop-event-preserved : goal.loop-event-preserved
loop-event-preserved c =
    let events : List Event = c.args.events.now in
    let e : Event = c.event-item.result in
    let rest : List Event = drop (c.loop-event.event-index + 1) events in
    ap (λ s. (fired s rest).left) c.take_event.ensures
    ∙ sym (fired_next c.loop-event.self e rest)
    ∙ ap (λ l. (fired c.loop-event.self l).left) (sym (drop_more events c.loop-event.event-index e c.loop-event-test.true ∙ ap (λ x. x ∷ rest) (sym c.event-item.is)))
    ∙ c.loop-event.invariant

pub returns : goal.returns
returns c =
    sym (none_left c.loop-event.self)
    ∙ ap (λ l. (fired c.loop-event.self l).left) (sym (drop_all c.loop-event.event-index c.args.events.now c.loop-event-test.false))
    ∙ c.loop-event.invariant
