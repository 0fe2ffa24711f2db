use Rattle.kp_model.specs.Step.{apply}
use Rattle.kp_model.specs.Touched.{touched}
use Rattle.kp_prep.proofs.Changes.{decided_sets, decided_fits}
use Rattle.kp_prep.proofs.deciding.decide.Goals as goal

pub returns-clause-changes : goal.returns-clause-changes
returns-clause-changes g c = decided_sets c.listed.result (touched (g.V.View.state c.args.view.now) c.args.entry.now) (g.V.View.state c.args.view.now) (apply (g.V.View.state c.args.view.now) c.args.entry.now) c.in_ok-found.found c.in_ok-found.ensures c.listed.ensures.changes

pub returns-clause-fits : goal.returns-clause-fits
returns-clause-fits g c = decided_fits c.listed.result (g.V.View.state c.args.view.now) c.in_ok-found.found c.requires.good c.in_ok-found.ensures.fits c.listed.ensures.changes
