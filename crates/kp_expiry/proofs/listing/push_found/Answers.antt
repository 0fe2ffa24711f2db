use Rattle.std.proofs.Common.{◌++◌, ◌∙◌, ap, sym, append-nil}
use Rattle.kp_expiry.specs.declared.tree.Slot.{Slot}
use Rattle.kp_expiry.proofs.Walked.{not_come}
use Rattle.kp_expiry.proofs.listing.push_found.Goals as goal

abbrev blank : Slot
blank = record { session = 0; deadline = 0; least = 0 }

pub returns-else-slot-now : goal.returns-else-slot-now
returns-else-slot-now c =
    sym (ap (λ l. c.args.found.now.items ++ l) (not_come c.args.slots.now c.args.now c.args.node blank c.requires c.if-slot-now.false) ∙ append-nil c.args.found.now.items)
