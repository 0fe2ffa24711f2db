use Rattle.kp_model.proofs.Late.{apply_late}
use Rattle.kp_model.proofs.laws.taken_entries_are_in_time.Goals as goal

pub returns : goal.returns
returns c = apply_late
