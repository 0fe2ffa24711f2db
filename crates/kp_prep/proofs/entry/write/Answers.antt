use Rattle.std.proofs.Common.{ap, sym, subst, ◌∙◌}
use Rattle.std.specs.Option.{option_copied}
use Rattle.kp_model.specs.declared.entry.Body.TheVariants as body
use Rattle.kp_model.specs.Touched.{touched_at}
use Rattle.kp_act.specs.Plans.{IsPlan}
use Rattle.kp_prep.proofs.Entries.{written_dead}
use Rattle.kp_prep.proofs.entry.write.Goals as goal

pub returns-in-None : goal.returns-in-None
returns-in-None g c = subst (IsPlan (touched_at (g.V.View.state c.args.view.now) c.args.stamp.index c.args.stamp.time (body.Write c.args.id c.args.epoch c.args.seq c.args.cmd.now)) (g.V.View.state c.args.view.now) _) (sym c.answer.ensures) (written_dead (touched_at (g.V.View.state c.args.view.now) c.args.stamp.index c.args.stamp.time (body.Write c.args.id c.args.epoch c.args.seq c.args.cmd.now)) (g.V.View.state c.args.view.now) c.args.stamp.index c.args.stamp.time c.args.id c.args.epoch c.args.seq c.args.cmd.now (sym (ap option_copied c.in-None.is) ∙ c.session.ensures))
