use Rattle.std.proofs.Common.{◌≡◌, List, ◌++◌, length}
use Rattle.std.specs.Vec.Iter.{into_iter_items, into_iter_len}
use Rattle.kp_shared.specs.Posts.{HasSeats, Posts}
use Rattle.kp_shared.proofs.sending.send_mails.Given as goal

abbrev pub invariant-loop-letter : goal.invariant-loop-letter
invariant-loop-letter g l = record {
  next : (goal.iterator-loop-letter g).can_next l.letter-iterator;
  finite : (goal.iterator-loop-letter g).is_finite l.letter-iterator;
  left : into_iter_len l.letter-iterator ≡ length (into_iter_items l.letter-iterator);
  seats : HasSeats l.links l.seats;
  posts : (done : List _) × (done ++ into_iter_items l.letter-iterator ≡ l.fn.mails) × Posts done l.fn.seats l.seats;
}
