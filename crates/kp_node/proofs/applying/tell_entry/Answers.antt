use Rattle.std.proofs.Common.{◌∙◌, ap, subst}
use Rattle.kp_model.specs.LogEntry.{LogEntry}
use Rattle.kp_watch.specs.Watching.{shown}
use Rattle.kp_node.specs.Informing.{AreInformed}
use Rattle.kp_node.proofs.applying.tell_entry.Goals as goal

pub returns-clause-informed : goal.returns-clause-informed
returns-clause-informed c = λ pairs h. subst (λ (z : LogEntry). AreInformed c.args.ground.me c.args.ground.boot c.args.next.now.index z.body c.args.next.now.reply pairs c.args.seats.now.seats c.inform.new.seats.seats) c.entry.view_is
    (c.inform.ensures.informed pairs (ap (λ es. shown es c.args.fired.now) c.as_slice.ensures ∙ h))
