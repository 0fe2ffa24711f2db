use Rattle.kp_audit.specs.Audits.{audited}
use Rattle.kp_top.specs.Auditing.{text_or_nothing}
use Rattle.kp_top.proofs.Runs.{nothing_yet}
use Rattle.kp_top.proofs.audit.run_audit.Goals as goal

pub returns-in-Err-clause-part : goal.returns-in-Err-clause-part
returns-in-Err-clause-part g c b holds = (text_or_nothing (audited c.args.node b), nothing_yet (g.W.Sink.held c.args.output.now) (text_or_nothing (audited c.args.node b)))
