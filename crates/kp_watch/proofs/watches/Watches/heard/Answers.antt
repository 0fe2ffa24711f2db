use Rattle.std.proofs.Common.{◌≡◌, ◌∙◌, sym, ap, subst}
use Rattle.std.proofs.lemmas.Result.{IfOk-weaker}
use Rattle.kp_model.specs.declared.reply.Event.TheVariants as event
use Rattle.kp_watch.specs.Watching.{hearing, unfired}
use Rattle.kp_watch.specs.Gone.{Leaves}
use Rattle.kp_watch.proofs.watches.Watches.heard.Goals as goal

pub returns-in-Created : goal.returns-in-Created
returns-in-Created c =
    IfOk-weaker c.hears.result _ _
    (λ conns f left h. subst (λ ev. (conns.items ≡ hearing left ev) × Leaves c.args.self.now c.hears.new.gone (unfired left ev)) (ap event.Created c.as_str.ensures ∙ sym c.in-Created.is) (f left h))
    c.hears.ensures

pub returns-in-DataChanged : goal.returns-in-DataChanged
returns-in-DataChanged c =
    IfOk-weaker c.hears-in-DataChanged.result _ _
    (λ conns f left h. subst (λ ev. (conns.items ≡ hearing left ev) × Leaves c.args.self.now c.hears-in-DataChanged.new.gone (unfired left ev)) (ap event.DataChanged c.as_str-in-DataChanged.ensures ∙ sym c.in-DataChanged.is) (f left h))
    c.hears-in-DataChanged.ensures

pub returns-in-ChildrenChanged : goal.returns-in-ChildrenChanged
returns-in-ChildrenChanged c =
    IfOk-weaker c.hears-in-ChildrenChanged.result _ _
    (λ conns f left h. subst (λ ev. (conns.items ≡ hearing left ev) × Leaves c.args.self.now c.hears-in-ChildrenChanged.new.gone (unfired left ev)) (ap event.ChildrenChanged c.as_str-in-ChildrenChanged.ensures ∙ sym c.in-ChildrenChanged.is) (f left h))
    c.hears-in-ChildrenChanged.ensures

pub returns-in-Deleted : goal.returns-in-Deleted
returns-in-Deleted c =
    IfOk-weaker c.hears_deleted.result _ _
    (λ conns f left h. subst (λ ev. (conns.items ≡ hearing left ev) × Leaves c.args.self.now c.hears_deleted.new.gone (unfired left ev)) (ap event.Deleted c.as_str-in-Deleted.ensures ∙ sym c.in-Deleted.is) (f left h))
    c.hears_deleted.ensures
