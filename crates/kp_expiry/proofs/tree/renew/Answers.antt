use Rattle.std.proofs.Common.{refl}
use Rattle.kp_expiry.specs.declared.tree.Slot.{Slot}
use Rattle.kp_expiry.proofs.Mended.{renewed_tags, renewed_here, renewed_others}
use Rattle.kp_expiry.proofs.tree.renew.Goals as goal

abbrev blank : Slot
blank = record { session = 0; deadline = 0; least = 0 }

pub returns-clause-tags : goal.returns-clause-tags
returns-clause-tags c = renewed_tags c.args.slots.now _ c.args.node c.least_below-least.result blank c.requires refl

pub returns-clause-here : goal.returns-clause-here
returns-clause-here c = renewed_here c.args.slots.now _ c.args.node c.least_below-least.result blank c.requires refl c.least_below-least.ensures

pub returns-clause-others : goal.returns-clause-others
returns-clause-others c = renewed_others c.args.slots.now _ c.args.node c.least_below-least.result blank c.requires refl
