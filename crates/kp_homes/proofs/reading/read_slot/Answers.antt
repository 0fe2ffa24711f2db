use Rattle.std.proofs.Common.{arith}
use Rattle.std.proofs.lemmas.Result.{err_from_is_err_and}
use Rattle.kp_journal.specs.Journals.{journal_of}
use Rattle.kp_homes.proofs.Looking.{slot_unread, image_unread, slot_read, slot_stand, ready_as, node_as, on_ok_all}
use Rattle.kp_homes.proofs.reading.read_slot.Goals as goal

pub returns-in_err-found-clause-read : goal.returns-in_err-found-clause-read
returns-in_err-found-clause-read g c =
    let p = err_from_is_err_and c.from_residual.result c.from_residual.ensures.1 in
    rw (p.1, p.2) (slot_unread c.args.slot (g.D.Disk.held c.args.journal.now) (g.D.Disk.held c.args.image.now) (journal_of c.args.node) c.in_err-found.field-0.0 c.in_err-found.ensures.read)

pub returns-in-Ok-clause-read : goal.returns-in-Ok-clause-read
returns-in-Ok-clause-read g c =
    slot_read c.args.slot c.image_len.result c.in_ok-found.found (g.D.Disk.held c.args.journal.now) (g.D.Disk.held c.args.image.now) (journal_of c.args.node) c.in-Ok.image c.replayed.result c.in_ok-found.ensures.read c.image_len.ensures c.in-Ok.ensures.read c.replayed.ensures.says

pub returns-in-Ok-clause-stand : goal.returns-in-Ok-clause-stand
returns-in-Ok-clause-stand g c =
    slot_stand c.args.slot c.image_len.result c.in_ok-found.found (g.D.Disk.held c.args.journal.now) (g.D.Disk.held c.args.image.now) (journal_of c.args.node) c.in-Ok.image c.replayed.result c.in_ok-found.ensures.read c.image_len.ensures c.in-Ok.ensures.read c.replayed.ensures.journal

pub returns-in-Ok-clause-ready : goal.returns-in-Ok-clause-ready
returns-in-Ok-clause-ready g c = ready_as c.replayed.result c.in_ok-found.found (g.D.Disk.held c.read_journal.new.disk) c.replayed.ensures.journal c.in_ok-found.ensures.ready

pub returns-in-Ok-clause-node : goal.returns-in-Ok-clause-node
returns-in-Ok-clause-node g c = node_as c.replayed.result c.in_ok-found.found c.args.node c.replayed.ensures.journal c.in_ok-found.ensures.node

pub returns-in-Ok-clause-fault : goal.returns-in-Ok-clause-fault
returns-in-Ok-clause-fault g c e = absurd (c.replayed.ensures.no_fault e)

pub returns-in-Err-clause-read : goal.returns-in-Err-clause-read
returns-in-Err-clause-read g c =
    image_unread c.args.slot c.image_len.result c.in_ok-found.found (g.D.Disk.held c.args.journal.now) (g.D.Disk.held c.args.image.now) (journal_of c.args.node) c.in-Err.fail c.in_ok-found.ensures.read c.image_len.ensures c.in-Err.ensures.read

pub returns-in-Ok-clause-quiet : goal.returns-in-Ok-clause-quiet
returns-in-Ok-clause-quiet g c = on_ok_all c.replayed.result (omega (arith, c.in_ok-found.ensures.quiet, c.in-Ok.ensures.quiet))
