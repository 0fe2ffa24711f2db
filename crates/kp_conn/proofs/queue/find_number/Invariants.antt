-- no request before has the number
use Rattle.kp_conn.specs.Queue.{is_numbered, NoneBefore}
use Rattle.kp_conn.proofs.queue.find_number.Given as goal

abbrev pub invariant-loop-at : goal.invariant-loop-at
invariant-loop-at l = NoneBefore (is_numbered l.seq) l.queue.items l.at
