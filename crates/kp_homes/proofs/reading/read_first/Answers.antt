use Rattle.std.proofs.Common.{false, refl, arith}
use Rattle.std.proofs.lemmas.Result.{on_ok_weaker}
use Rattle.std.specs.Prelude.{IfSome, IfOk}
use Rattle.kp_journal.proofs.Staging.{some_of}
use Rattle.kp_journal.specs.Journals.{journal_of}
use Rattle.kp_homes.specs.Stands.{slot_of}
use Rattle.kp_homes.specs.Opening.{Finds, found_in}
use Rattle.kp_homes.specs.Reading.{found_of, HasJournal}
use Rattle.kp_homes.proofs.Looking.{finds_slot, is_live, ready_first}
use Rattle.kp_homes.proofs.reading.read_first.Goals as goal

pub returns-clause-read : goal.returns-clause-read
returns-clause-read g c b holds live =
    finds_slot 0 c.args.node false b c.read_slot.result (slot_of 0 (journal_of c.args.node b.j0) b.i0) live refl refl
    (some_of _ (λ ys. Finds found_of c.read_slot.result (found_in 0 (slot_of 0 (journal_of c.args.node b.j0) ys))) b.i0
    (some_of _ (λ xs. IfSome (g.H.Disk.held c.args.disks.now.i0) (λ ys. Finds found_of c.read_slot.result (found_in 0 (slot_of 0 (journal_of c.args.node xs) ys)))) b.j0 c.read_slot.ensures.read holds.on_j0) holds.on_i0)

pub returns-clause-live : goal.returns-clause-live
returns-clause-live g c b holds live =
    is_live c.args.node false b c.read_slot.result (slot_of 0 (journal_of c.args.node b.j0) b.i0) live refl c.read_slot.ensures.second
    (some_of _ (λ ys. IfOk c.read_slot.result (λ l. HasJournal (slot_of 0 (journal_of c.args.node b.j0) ys) l.journal)) b.i0
    (some_of _ (λ xs. IfSome (g.H.Disk.held c.args.disks.now.i0) (λ ys. IfOk c.read_slot.result (λ l. HasJournal (slot_of 0 (journal_of c.args.node xs) ys) l.journal))) b.j0 c.read_slot.ensures.stand holds.on_j0) holds.on_i0)

pub returns-clause-ready : goal.returns-clause-ready
returns-clause-ready g c = ready_first c.read_slot.result (g.H.Disk.held c.read_slot.new.journal) (g.H.Disk.held c.args.disks.now.j1) c.read_slot.ensures.second c.read_slot.ensures.ready

pub returns-clause-same : goal.returns-clause-same
returns-clause-same g c = record {
  held_j0 = c.read_slot.ensures.keeps_journal;
  held_j1 = refl;
  held_i0 = c.read_slot.ensures.keeps_image;
  held_i1 = refl;
  past_j0 = c.read_slot.ensures.past_journal;
  past_j1 = refl;
  past_i0 = c.read_slot.ensures.past_image;
  past_i1 = refl;
}

pub returns-clause-quiet : goal.returns-clause-quiet
returns-clause-quiet g c = on_ok_weaker c.read_slot.result (λ e. omega (arith, e)) c.read_slot.ensures.quiet
