use Rattle.kp_links.specs.LinkSeats.{IsLinkSeatOf}
use Rattle.kp_serving_tests.proofs.tests.three_messages_come_in_order.Given as goal

abbrev pub invariant-loop-message : goal.invariant-loop-message
invariant-loop-message g l = IsLinkSeatOf l.link l.one × IsLinkSeatOf l.link l.two

abbrev pub invariant-loop-message-2 : goal.invariant-loop-message-2
invariant-loop-message-2 g l = IsLinkSeatOf l.link l.two
