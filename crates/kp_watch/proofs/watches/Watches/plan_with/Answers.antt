use Rattle.std.proofs.Common.{◌∙◌, ◌++◌, ◌∷◌, [], List, take, length, refl, sym, ap, subst}
use Rattle.std.proofs.lemmas.List.{take_more, take_all}
use Rattle.std.proofs.lemmas.Option.{slice_get_read}
use Rattle.kp_model.specs.declared.reply.Event.{Event}
use Rattle.kp_watch.specs.Watching.{fired, shown, somes}
use Rattle.kp_watch.specs.Gone.{Leaves}
use Rattle.kp_watch.proofs.Fires.{nothing_fired, fired_more, shown_more}
use Rattle.kp_watch.proofs.watches.Watches.plan_with.Goals as goal

pub loop-at-init : goal.loop-at-init
loop-at-init c =
    let none = nothing_fired c.args.self.now c.args.gone.now c.args.events.now c.requires in
    (none.0, ap (shown c.args.events.now) c.new-fired.ensures.items ∙ none.1)

pub loop-at-preserved : goal.loop-at-preserved
loop-at-preserved c =
    let ws = c.args.self.now in
    let events : List Event = c.args.events.now in
    let e : Event = c.index-events-at.result in
    let es : List Event = take c.loop-at.at events in
    let more = take_more events c.loop-at.at e c.loop-at-test.true ∙ ap (λ x. es ++ x ∷ []) (sym c.index-events-at.is) in
    let r = c.in_ok-conns.ensures (fired ws es).left c.loop-at.invariant.0 in (
      subst (λ l. Leaves ws c.heard.new.gone l) (sym (ap (λ l. (fired ws l).left) more ∙ fired_more ws es e)) r.1,
      ap (shown events) c.in_ok-push_all.ensures
          ∙ shown_more ws events es c.loop-at.at e c.loop-at.fired.items c.deref.result.now (slice_get_read events (length events) c.loop-at.at e refl c.loop-at-test.true c.index-events-at.is) c.loop-at.invariant.1 (c.deref.ensures.value ∙ r.0)
          ∙ ap (λ l. somes (fired ws l).pairs) (sym more),
    )

pub returns : goal.returns
returns c = c.loop-at.invariant.1 ∙ ap (λ l. somes (fired c.args.self.now l).pairs) (take_all c.loop-at.at c.args.events.now c.loop-at-test.false)
