use Rattle.std.proofs.Common.{◌≡◌, List, ◌++◌, length}
use Rattle.std.specs.Vec.Iter.{into_iter_items, into_iter_len}
use Rattle.kp_event.specs.declared.thought.Thought.{Thought}
use Rattle.kp_shared.specs.Letters.{Letter}
use Rattle.kp_shared.specs.Posts.{HasSeats, Posts}
use Rattle.kp_shared.specs.Tasks.{mails_of}
use Rattle.kp_shared.proofs.sending.post_all.Given as goal

abbrev pub invariant-loop-thought : goal.invariant-loop-thought
invariant-loop-thought g l = record {
  next : (goal.iterator-loop-thought g).can_next l.thought-iterator;
  finite : (goal.iterator-loop-thought g).is_finite l.thought-iterator;
  left : into_iter_len l.thought-iterator ≡ length (into_iter_items l.thought-iterator);
  seats : HasSeats l.links l.seats;
  posts : (done : List (Thought (Letter _))) × (done ++ into_iter_items l.thought-iterator ≡ l.fn.thoughts.items) × Posts (mails_of done) l.fn.seats l.seats;
}
