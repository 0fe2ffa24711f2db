use Rattle.std.proofs.Common.{sym, subst}
use Rattle.std.specs.Prelude.{IfOk}
use Rattle.kp_model.specs.Step.{act, with_seq}
use Rattle.kp_model.specs.State.{State}
use Rattle.std.specs.FinMap as map
use Rattle.kp_act.specs.Plans.{IsPlan}
use Rattle.kp_act.proofs.Acts.{if_ok}
use Rattle.kp_prep.proofs.Entries.{acted_is, touched_named}
use Rattle.kp_prep.proofs.entry.acted_on_node.Goals as goal

pub returns-in-Ok : goal.returns-in-Ok
returns-in-Ok g c =
    let s : State = g.V.View.state c.args.view.now in
    λ epoch. subst (λ k. IfOk c.done_by.result (IsPlan k s (act (record s { applied = c.args.stamp.index; sessions = map.insert s.sessions c.args.id (with_seq c.args.seq c.args.session.now) }) c.args.id c.args.session.now.ids c.args.stamp.index c.args.stamp.time c.args.cmd.now))) (sym (touched_named s c.args.stamp.index c.args.stamp.time c.args.id epoch c.args.seq c.args.cmd.now c.requires.node))
    (if_ok _ _ _ c.done_by.ensures (acted_is s c.args.session.now.ids c.args.stamp.index c.args.stamp.time c.args.id (with_seq c.args.seq c.args.session.now) c.args.cmd.now c.in-Ok.done c.in-Ok.ensures))
