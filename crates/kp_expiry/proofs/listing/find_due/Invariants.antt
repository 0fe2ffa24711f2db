use Rattle.kp_expiry.proofs.Walked.{IsWalked}
use Rattle.kp_expiry.proofs.listing.find_due.Given as goal

abbrev pub invariant-loop-at : goal.invariant-loop-at
invariant-loop-at l = IsWalked l.slots l.now l.at l.nodes.items l.found.items
