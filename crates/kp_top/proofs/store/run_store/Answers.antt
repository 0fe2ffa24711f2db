use Rattle.kp_top.specs.Transcript.{transcript}
use Rattle.kp_top.proofs.Runs.{nothing_yet}
use Rattle.kp_top.proofs.store.run_store.Goals as goal

pub returns-in-Err-clause-part : goal.returns-in-Err-clause-part
returns-in-Err-clause-part g c = (transcript c.args.text.now, nothing_yet (g.W.Sink.held c.args.output.now) (transcript c.args.text.now))
