use Rattle.std.proofs.Common.{Result, ◌∙◌, ap, sym, subst}
use Rattle.kp_homes.specs.declared.fail.HomeFail.{HomeFail}
use Rattle.kp_homes.specs.declared.reading.Live.{Live}
use Rattle.kp_homes.specs.Opening.{Start, restarted, with_start, Refuses}
use Rattle.kp_homes.proofs.Within.{found_within}
use Rattle.kp_homes.proofs.Looking.{replayed_err, refuses_no_fault, refuses_no_full}
use Rattle.kp_homes.proofs.reading.replayed.Goals as goal

pub returns-in-Ok-clause-says : goal.returns-in-Ok-clause-says
returns-in-Ok-clause-says c =
    ap (λ (r : Result Start HomeFail). with_start c.args.image r)
    (ap (λ (s : Start). restarted c.args.slot s c.args.journal.run.records c.args.journal.run.places) (sym c.behind-replay.ensures.value) ∙ c.in-Ok.ensures)

pub returns-in-Err-clause-says : goal.returns-in-Err-clause-says
returns-in-Err-clause-says c =
    replayed_err c.in-Err.fail c.args.image _
    (subst (λ (s : Start). Refuses c.in-Err.fail (restarted c.args.slot s c.args.journal.run.records c.args.journal.run.places)) c.behind-replay.ensures.value c.in-Err.ensures)

pub returns-in-Err-clause-no_fault : goal.returns-in-Err-clause-no_fault
returns-in-Err-clause-no_fault c e = refuses_no_fault {A = Live} c.in-Err.fail _ c.in-Err.ensures e

pub returns-in-Err-clause-no_full : goal.returns-in-Err-clause-no_full
returns-in-Err-clause-no_full c s n e = refuses_no_full {A = Live} c.in-Err.fail _ s n c.in-Err.ensures e

pub returns-in-Ok-clause-room : goal.returns-in-Ok-clause-room
returns-in-Ok-clause-room c =
    found_within c.args.slot c.args.image c.args.journal.run.records c.args.journal.run.places c.take_all.new.self c.behind-replay.ensures.limit
    (ap (λ (s : Start). restarted c.args.slot s c.args.journal.run.records c.args.journal.run.places) (sym c.behind-replay.ensures.value) ∙ c.in-Ok.ensures)
