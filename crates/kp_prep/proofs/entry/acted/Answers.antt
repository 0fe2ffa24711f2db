use Rattle.std.proofs.Common.{sym, subst}
use Rattle.std.specs.Prelude.{IfOk}
use Rattle.std.specs.FinMap as map
use Rattle.kp_model.specs.State.{State, Sessions}
use Rattle.kp_model.specs.Step.{act, with_seq}
use Rattle.kp_model.specs.declared.entry.Body.TheVariants as body
use Rattle.kp_model.specs.Touched.{touched_at}
use Rattle.kp_act.specs.Plans.{IsPlan}
use Rattle.kp_draft.proofs.Closed.{acted_closed}
use Rattle.kp_prep.proofs.Entries.{gone_again}
use Rattle.kp_prep.proofs.entry.acted.Goals as goal

pub returns-in-CloseSession : goal.returns-in-CloseSession
returns-in-CloseSession g c =
    let s : State = g.V.View.state c.args.view.now in
    let m : Sessions = map.insert s.sessions c.args.id (with_seq c.args.seq c.args.session.now) in
    λ epoch. subst (λ x. IfOk c.close.result (IsPlan (touched_at s c.args.stamp.index c.args.stamp.time (body.Write c.args.id epoch c.args.seq x)) s (act (record s { applied = c.args.stamp.index; sessions = m }) c.args.id c.args.session.now.ids c.args.stamp.index c.args.stamp.time x))) (sym c.in-CloseSession.is)
    (acted_closed s m c.args.session.now.ids c.args.stamp.index c.args.stamp.time c.args.id c.close.result (c.close.ensures c.args.stamp.index m (gone_again s.sessions c.args.id (with_seq c.args.seq c.args.session.now))))

pub returns-in-Multi : goal.returns-in-Multi
returns-in-Multi g c =
    let s : State = g.V.View.state c.args.view.now in
    let m : Sessions = map.insert s.sessions c.args.id (with_seq c.args.seq c.args.session.now) in
    λ epoch. subst (λ x. IfOk c.multi.result (IsPlan (touched_at s c.args.stamp.index c.args.stamp.time (body.Write c.args.id epoch c.args.seq x)) s (act (record s { applied = c.args.stamp.index; sessions = m }) c.args.id c.args.session.now.ids c.args.stamp.index c.args.stamp.time x))) (sym c.in-Multi.is) (c.multi.ensures epoch)
