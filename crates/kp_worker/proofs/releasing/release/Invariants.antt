use Rattle.std.proofs.Common.{◌≡◌, List, ◌++◌, length}
use Rattle.std.specs.Vec.Iter.{into_iter_items, into_iter_len}
use Rattle.kp_shared.specs.Posts.{HasSeats, Posts}
use Rattle.kp_worker.specs.declared.note.Note.{Note}
use Rattle.kp_worker.specs.Notes.{mails}
use Rattle.kp_worker.specs.Calls.{Releases}
use Rattle.kp_worker.proofs.releasing.release.Given as goal

abbrev pub invariant-loop-note : goal.invariant-loop-note
invariant-loop-note g l = record {
  next : (goal.iterator-loop-note g).can_next l.note-iterator;
  finite : (goal.iterator-loop-note g).is_finite l.note-iterator;
  left : into_iter_len l.note-iterator ≡ length (into_iter_items l.note-iterator);
  seats : HasSeats l.links l.seats;
  all : (done : List (Note _)) × (done ++ into_iter_items l.note-iterator ≡ l.fn.notes.items) × Releases (g.L.Lines.sees l.fn.lines) (g.L.Lines.sees l.lines) done × Posts (mails done) l.fn.seats l.seats;
}
