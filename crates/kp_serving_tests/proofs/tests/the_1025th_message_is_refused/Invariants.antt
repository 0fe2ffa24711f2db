use Rattle.kp_links.specs.LinkSeats.{IsLinkSeatOf}
use Rattle.kp_serving_tests.proofs.tests.the_1025th_message_is_refused.Given as goal

abbrev pub invariant-loop-message : goal.invariant-loop-message
invariant-loop-message g l = IsLinkSeatOf l.link l.seat
