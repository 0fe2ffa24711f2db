use Rattle.std.proofs.Common.{sym, subst}
use Rattle.kp_model.specs.declared.reply.Reply.TheVariants as reply
use Rattle.kp_model.specs.Step.{take_body}
use Rattle.kp_model.specs.Touched.{touched_at}
use Rattle.kp_act.specs.Plans.{IsPlan}
use Rattle.kp_act.proofs.Acts.{if_ok_then}
use Rattle.kp_act.proofs.Plans.{answered_is}
use Rattle.kp_prep.proofs.Entries.{planned_entry}
use Rattle.kp_prep.proofs.entry.plan.Goals as goal

pub returns-in-Noop : goal.returns-in-Noop
unfolding take_body
returns-in-Noop g c = planned_entry (g.V.View.state c.args.view.now) c.args.index (record { term = c.entry.inside.term; time = c.entry.inside.time; body = c.entry.inside.body }) c.args.entry.now c.answer.result c.requires.next c.entry.view_is (subst (λ b. IsPlan (touched_at (g.V.View.state c.args.view.now) c.args.index c.entry.inside.time b) (g.V.View.state c.args.view.now) (take_body (record (g.V.View.state c.args.view.now) { applied = c.args.index }) c.args.index c.entry.inside.time b) c.answer.result) (sym c.in-Noop.is) (subst (IsPlan _ (g.V.View.state c.args.view.now) _) (sym c.answer.ensures) (answered_is _ (g.V.View.state c.args.view.now) c.args.index reply.Done)))

pub returns-in-OpenSession : goal.returns-in-OpenSession
unfolding take_body
returns-in-OpenSession g c = planned_entry (g.V.View.state c.args.view.now) c.args.index (record { term = c.entry.inside.term; time = c.entry.inside.time; body = c.entry.inside.body }) c.args.entry.now c.open.result c.requires.next c.entry.view_is (subst (λ b. IsPlan (touched_at (g.V.View.state c.args.view.now) c.args.index c.entry.inside.time b) (g.V.View.state c.args.view.now) (take_body (record (g.V.View.state c.args.view.now) { applied = c.args.index }) c.args.index c.entry.inside.time b) c.open.result) (sym c.in-OpenSession.is) (c.open.ensures c.args.index))

pub returns-in-Write : goal.returns-in-Write
unfolding take_body
returns-in-Write g c = if_ok_then _ _ _ c.write.ensures (λ p h. planned_entry (g.V.View.state c.args.view.now) c.args.index (record { term = c.entry.inside.term; time = c.entry.inside.time; body = c.entry.inside.body }) c.args.entry.now p c.requires.next c.entry.view_is (subst (λ b. IsPlan (touched_at (g.V.View.state c.args.view.now) c.args.index c.entry.inside.time b) (g.V.View.state c.args.view.now) (take_body (record (g.V.View.state c.args.view.now) { applied = c.args.index }) c.args.index c.entry.inside.time b) p) (sym c.in-Write.is) h))

pub returns-in-Attach : goal.returns-in-Attach
unfolding take_body
returns-in-Attach g c = if_ok_then _ _ _ (c.attach.ensures c.args.index) (λ p h. planned_entry (g.V.View.state c.args.view.now) c.args.index (record { term = c.entry.inside.term; time = c.entry.inside.time; body = c.entry.inside.body }) c.args.entry.now p c.requires.next c.entry.view_is (subst (λ b. IsPlan (touched_at (g.V.View.state c.args.view.now) c.args.index c.entry.inside.time b) (g.V.View.state c.args.view.now) (take_body (record (g.V.View.state c.args.view.now) { applied = c.args.index }) c.args.index c.entry.inside.time b) p) (sym c.in-Attach.is) h))

pub returns-in-Expire : goal.returns-in-Expire
unfolding take_body
returns-in-Expire g c = if_ok_then _ _ _ (c.expire.ensures c.args.index) (λ p h. planned_entry (g.V.View.state c.args.view.now) c.args.index (record { term = c.entry.inside.term; time = c.entry.inside.time; body = c.entry.inside.body }) c.args.entry.now p c.requires.next c.entry.view_is (subst (λ b. IsPlan (touched_at (g.V.View.state c.args.view.now) c.args.index c.entry.inside.time b) (g.V.View.state c.args.view.now) (take_body (record (g.V.View.state c.args.view.now) { applied = c.args.index }) c.args.index c.entry.inside.time b) p) (sym c.in-Expire.is) h))
