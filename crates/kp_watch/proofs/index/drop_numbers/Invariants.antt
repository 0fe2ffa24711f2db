use Rattle.std.proofs.Common.{◌≡◌, ℕ, nat_eq, cond, None}
use Rattle.std.specs.List.{list_any}
use Rattle.kp_watch.specs.Numbered.{watch_at, AreOrdered}
use Rattle.kp_watch.specs.Indexed.{AreBeside}
use Rattle.kp_watch.proofs.index.drop_numbers.Given as goal

abbrev pub invariant-loop-number : goal.invariant-loop-number
invariant-loop-number l = AreOrdered l.book.entries × AreBeside l.sides (watch_at l.book.entries)
    × ((n : ℕ) → cond (list_any (nat_eq n) l.numbers.keys) None (watch_at l.fn.book.entries n) ≡ cond (list_any (nat_eq n) l.number-iterator) None (watch_at l.book.entries n))
