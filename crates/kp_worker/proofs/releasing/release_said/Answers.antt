use Rattle.kp_worker.specs.Notes.{opened_by}
use Rattle.kp_worker.proofs.Drained.{opened_there}
use Rattle.kp_worker.proofs.releasing.release_said.Goals as goal

pub hand_drained-requires : goal.hand_drained-requires
hand_drained-requires g c = opened_there (g.L.Lines.sees c.args.lines.now).state (g.L.Lines.sees c.admit_opened.new.lines).state c.args.mark (opened_by c.args.said) c.admit_opened.ensures.state c.requires.there
