use Rattle.kp_model.proofs.Applied.{applied-apply, applied-after}
use Rattle.kp_model.proofs.laws.entries_raise_the_index.Goals as goal

pub returns-clause-one : goal.returns-clause-one
returns-clause-one c = applied-apply

pub returns-clause-all : goal.returns-clause-all
returns-clause-all c = applied-after
