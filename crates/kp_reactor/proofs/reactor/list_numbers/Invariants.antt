use Rattle.std.proofs.Common.{◌≡◌, ◌≤◌, ◌+◌, ◌++◌, ◌||◌, length, vec_capacity}
use Rattle.std.specs.Slice.Iter.{iter_rest}
use Rattle.mio.specs.Events.{items}
use Rattle.kp_reactor.specs.Naming.{is_among, numbers_of, of_listener, tokens_of}
use Rattle.kp_reactor.proofs.reactor.list_numbers.Given as goal

abbrev pub invariant-loop-event : goal.invariant-loop-event
invariant-loop-event l =
    (l.told.items ++ numbers_of l.tokens.names (tokens_of (iter_rest l.event-iterator)) ≡ numbers_of l.tokens.names (tokens_of (items l.events)))
    × ((l.knocked || is_among of_listener (tokens_of (iter_rest l.event-iterator))) ≡ is_among of_listener (tokens_of (items l.events)))
    × (length l.told.items + length (iter_rest l.event-iterator) ≤ vec_capacity l.told)
