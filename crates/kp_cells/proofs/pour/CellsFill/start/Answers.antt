use Rattle.kp_cells.proofs.Settled.{settled_next}
use Rattle.kp_cells.proofs.Poured.{numbers_poured, numbers_settled}
use Rattle.kp_cells.proofs.pour.CellsFill.start.Goals as goal

pub put_numbers-requires : goal.put_numbers-requires
put_numbers-requires c = settled_next c.args.self.now c.requires.may

pub returns-clause-set : goal.returns-clause-set
returns-clause-set c = numbers_poured c.args.self.now c.requires.may _ c.args.applied c.args.next_session c.put_numbers.ensures

pub returns-clause-may : goal.returns-clause-may
returns-clause-may c = numbers_settled c.args.self.now c.requires.may _ c.args.applied c.args.next_session c.put_numbers.ensures
