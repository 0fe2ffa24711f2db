use Rattle.std.proofs.Common.{sym, subst, ◌∙◌}
use Rattle.kp_model.specs.declared.entry.Body.TheVariants as body
use Rattle.kp_model.specs.Touched.{touched_at}
use Rattle.kp_act.specs.Plans.{IsPlan}
use Rattle.kp_prep.proofs.Entries.{written_stale}
use Rattle.kp_prep.proofs.entry.write_of.Goals as goal

pub returns-else-due : goal.returns-else-due
returns-else-due g c = subst (IsPlan (touched_at (g.V.View.state c.args.view.now) c.args.stamp.index c.args.stamp.time (body.Write c.args.id c.args.epoch c.args.seq c.args.cmd.now)) (g.V.View.state c.args.view.now) _) (sym c.answer.ensures) (written_stale (touched_at (g.V.View.state c.args.view.now) c.args.stamp.index c.args.stamp.time (body.Write c.args.id c.args.epoch c.args.seq c.args.cmd.now)) (g.V.View.state c.args.view.now) c.args.stamp.index c.args.stamp.time c.args.id c.args.epoch c.args.seq c.args.cmd.now c.args.session.now (sym c.is_due-due.ensures ∙ c.if-due.false))
