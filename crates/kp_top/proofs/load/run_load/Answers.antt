use Rattle.kp_top.specs.Loading.{load_text}
use Rattle.kp_top.proofs.Runs.{nothing_yet}
use Rattle.kp_top.proofs.load.run_load.Goals as goal

pub returns-in_default-clause-part : goal.returns-in_default-clause-part
returns-in_default-clause-part g c = (load_text c.args.start c.args.count, nothing_yet (g.W.Sink.held c.args.output.now) (load_text c.args.start c.args.count))
